use Rattle.std.proofs.Common.{◌≡◌, ◌∙◌, ap, sym, true, false}
use Rattle.std.specs.Prelude.{option_map}
use Rattle.std.specs.List.{list_any}
use Rattle.board_text.specs.Fields.{is_text}
use Rattle.board_text.proofs.Walks.{any_here, any_next, any_none, any_of_map, get_same}
use Rattle.board_pads.proofs.form.is_one_of.Goals as goal

pub returns-then-is_text : goal.returns-then-is_text
returns-then-is_text c =
    any_of_map (λ name. is_text name (option_map (λ v. v.items) c.args.found.now)) (λ name. name.now) c.args.names.now true
    (any_here (λ name. is_text name.now (option_map (λ v. v.items) c.args.found.now)) c.args.names.now c.each.name-index _ (list_any (λ name. is_text name.now (option_map (λ v. v.items) c.args.found.now)) c.args.names.now) c.each-test.true
    (λ d. get_same c.args.names.now c.each.name-index _ d c.each-test.true) (sym c.is_text.ensures ∙ c.if-is_text.true) c.each.invariant)

pub returns : goal.returns
returns c =
    any_of_map (λ name. is_text name (option_map (λ v. v.items) c.args.found.now)) (λ name. name.now) c.args.names.now false
    (any_none (λ name. is_text name.now (option_map (λ v. v.items) c.args.found.now)) c.args.names.now c.each.name-index (list_any (λ name. is_text name.now (option_map (λ v. v.items) c.args.found.now)) c.args.names.now) c.each-test.false c.each.invariant)
