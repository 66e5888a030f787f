use Rattle.std.proofs.Common.{◌∙◌, ap, sym, not, true, false}
use Rattle.std.specs.List.{list_any}
use Rattle.board_text.specs.Fields.{has_list}
use Rattle.board_text.proofs.Walks.{any_here, any_next, any_none, any_of_map, get_same}
use Rattle.board_items.proofs.lists.lacks.Goals as goal

pub returns-then-not-has : goal.returns-then-not-has
returns-then-not-has c =
    any_of_map (λ name. not (has_list c.args.item.now.bytes name c.args.item.now.item)) (λ name. name.now) c.args.names.now true
    (any_here (λ name. not (has_list c.args.item.now.bytes name.now c.args.item.now.item)) c.args.names.now c.each.name-index _ (list_any (λ name. not (has_list c.args.item.now.bytes name.now c.args.item.now.item)) c.args.names.now) c.each-test.true
    (λ d. get_same c.args.names.now c.each.name-index _ d c.each-test.true) (ap not (sym c.has.ensures ∙ c.if-not-has.true)) c.each.invariant)

pub each-preserved : goal.each-preserved
each-preserved c =
    any_next (λ name. not (has_list c.args.item.now.bytes name.now c.args.item.now.item)) c.args.names.now c.each.name-index _ (list_any (λ name. not (has_list c.args.item.now.bytes name.now c.args.item.now.item)) c.args.names.now) c.each-test.true
    (λ d. get_same c.args.names.now c.each.name-index _ d c.each-test.true) (ap not (sym c.has.ensures ∙ c.if-not-has.false)) c.each.invariant

pub returns : goal.returns
returns c =
    any_of_map (λ name. not (has_list c.args.item.now.bytes name c.args.item.now.item)) (λ name. name.now) c.args.names.now false
    (any_none (λ name. not (has_list c.args.item.now.bytes name.now c.args.item.now.item)) c.args.names.now c.each.name-index (list_any (λ name. not (has_list c.args.item.now.bytes name.now c.args.item.now.item)) c.args.names.now) c.each-test.false c.each.invariant)
