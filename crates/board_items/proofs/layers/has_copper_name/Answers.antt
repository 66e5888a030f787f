use Rattle.std.proofs.Common.{◌∙◌, ap, sym, true, false}
use Rattle.std.specs.List.{list_any}
use Rattle.board_text.specs.Layers.{is_copper}
use Rattle.board_text.proofs.Walks.{any_here, any_next, any_none, any_of_map, get_same}
use Rattle.board_items.proofs.layers.has_copper_name.Goals as goal

pub returns-then-is_copper : goal.returns-then-is_copper
returns-then-is_copper c =
    any_of_map is_copper (λ v. v.items) c.args.names.now true
    (any_here (λ v. is_copper v.items) c.args.names.now c.each.name-index c.name-item.result (list_any (λ v. is_copper v.items) c.args.names.now) c.each-test.true
    (λ d. c.name-item.is ∙ get_same c.args.names.now c.each.name-index c.name-item.result d c.each-test.true)
    (ap is_copper (sym c.as_slice.ensures.value) ∙ sym c.is_copper.ensures ∙ c.if-is_copper.true) c.each.invariant)

pub each-preserved : goal.each-preserved
each-preserved c =
    any_next (λ v. is_copper v.items) c.args.names.now c.each.name-index c.name-item.result (list_any (λ v. is_copper v.items) c.args.names.now) c.each-test.true
    (λ d. c.name-item.is ∙ get_same c.args.names.now c.each.name-index c.name-item.result d c.each-test.true)
    (ap is_copper (sym c.as_slice.ensures.value) ∙ sym c.is_copper.ensures ∙ c.if-is_copper.false) c.each.invariant

pub returns : goal.returns
returns c =
    any_of_map is_copper (λ v. v.items) c.args.names.now false
    (any_none (λ v. is_copper v.items) c.args.names.now c.each.name-index (list_any (λ v. is_copper v.items) c.args.names.now) c.each-test.false c.each.invariant)
