use Rattle.std.proofs.Common.{◌∙◌, ap, sym, not, true, false}
use Rattle.std.specs.List.{list_any}
use Rattle.board_text.specs.Layers.{is_among}
use Rattle.board_text.proofs.Walks.{any_here, any_none, any_of_map, get_same}
use Rattle.board_items.proofs.layer_lists.has_other.Goals as goal

pub returns-then-not-has : goal.returns-then-not-has
returns-then-not-has c =
    any_of_map (λ name. not (is_among c.args.copper.now name)) (λ v. v.items) c.args.meant.now true
    (any_here (λ v. not (is_among c.args.copper.now v.items)) c.args.meant.now c.each.name-index c.name-item.result (list_any (λ v. not (is_among c.args.copper.now v.items)) c.args.meant.now) c.each-test.true
    (λ d. c.name-item.is ∙ get_same c.args.meant.now c.each.name-index c.name-item.result d c.each-test.true)
    (ap (λ xs. not (is_among c.args.copper.now xs)) (sym c.as_slice.ensures.value) ∙ ap not (sym c.has.ensures ∙ c.if-not-has.true)) c.each.invariant)

pub returns : goal.returns
returns c =
    any_of_map (λ name. not (is_among c.args.copper.now name)) (λ v. v.items) c.args.meant.now false
    (any_none (λ v. not (is_among c.args.copper.now v.items)) c.args.meant.now c.each.name-index (list_any (λ v. not (is_among c.args.copper.now v.items)) c.args.meant.now) c.each-test.false c.each.invariant)
