use Rattle.std.proofs.Common.{◌∙◌, sym, true, false}
use Rattle.std.specs.List.{list_any}
use Rattle.board_text.specs.Fields.{list_of}
use Rattle.board_text.specs.Numbers.{is_short}
use Rattle.board_text.proofs.Walks.{any_here, any_next, any_none, any_of_map, get_same}
use Rattle.board_items.proofs.lists.has_short.Goals as goal

pub returns-then-is_short_in : goal.returns-then-is_short_in
returns-then-is_short_in c =
    any_of_map (λ name. is_short c.args.n (list_of c.args.item.now.bytes name c.args.item.now.item)) (λ name. name.now) c.args.names.now true
    (any_here (λ name. is_short c.args.n (list_of c.args.item.now.bytes name.now c.args.item.now.item)) c.args.names.now c.each.name-index _ (list_any (λ name. is_short c.args.n (list_of c.args.item.now.bytes name.now c.args.item.now.item)) c.args.names.now) c.each-test.true
    (λ d. get_same c.args.names.now c.each.name-index _ d c.each-test.true) (sym c.is_short_in.ensures ∙ c.if-is_short_in.true) c.each.invariant)

pub each-preserved : goal.each-preserved
each-preserved c =
    any_next (λ name. is_short c.args.n (list_of c.args.item.now.bytes name.now c.args.item.now.item)) c.args.names.now c.each.name-index _ (list_any (λ name. is_short c.args.n (list_of c.args.item.now.bytes name.now c.args.item.now.item)) c.args.names.now) c.each-test.true
    (λ d. get_same c.args.names.now c.each.name-index _ d c.each-test.true) (sym c.is_short_in.ensures ∙ c.if-is_short_in.false) c.each.invariant

pub returns : goal.returns
returns c =
    any_of_map (λ name. is_short c.args.n (list_of c.args.item.now.bytes name c.args.item.now.item)) (λ name. name.now) c.args.names.now false
    (any_none (λ name. is_short c.args.n (list_of c.args.item.now.bytes name.now c.args.item.now.item)) c.args.names.now c.each.name-index (list_any (λ name. is_short c.args.n (list_of c.args.item.now.bytes name.now c.args.item.now.item)) c.args.names.now) c.each-test.false c.each.invariant)
