use Rattle.std.proofs.Common.{◌∙◌, sym, true, false}
use Rattle.std.specs.List.{list_any}
use Rattle.board_text.specs.Fields.{list_of}
use Rattle.board_text.specs.Items.{is_bad_length}
use Rattle.board_text.proofs.Walks.{any_here, any_next, any_none, any_of_map, get_same}
use Rattle.board_items.proofs.lists.has_bad_length.Goals as goal

pub returns-then-branch : goal.returns-then-branch
returns-then-branch c =
    any_of_map (λ name. is_bad_length c.args.item.now.bytes (list_of c.args.item.now.bytes name c.args.item.now.item)) (λ name. name.now) c.args.names.now true
    (any_here (λ name. is_bad_length c.args.item.now.bytes (list_of c.args.item.now.bytes name.now c.args.item.now.item)) c.args.names.now c.each.name-index _ (list_any (λ name. is_bad_length c.args.item.now.bytes (list_of c.args.item.now.bytes name.now c.args.item.now.item)) c.args.names.now) c.each-test.true
    (λ d. get_same c.args.names.now c.each.name-index _ d c.each-test.true) (sym c.in_ok-is_bad_length.ensures ∙ c.if-branch.true) c.each.invariant)

pub each-preserved : goal.each-preserved
each-preserved c =
    any_next (λ name. is_bad_length c.args.item.now.bytes (list_of c.args.item.now.bytes name.now c.args.item.now.item)) c.args.names.now c.each.name-index _ (list_any (λ name. is_bad_length c.args.item.now.bytes (list_of c.args.item.now.bytes name.now c.args.item.now.item)) c.args.names.now) c.each-test.true
    (λ d. get_same c.args.names.now c.each.name-index _ d c.each-test.true) (sym c.in_ok-is_bad_length.ensures ∙ c.if-branch.false) c.each.invariant

pub returns : goal.returns
returns c =
    any_of_map (λ name. is_bad_length c.args.item.now.bytes (list_of c.args.item.now.bytes name c.args.item.now.item)) (λ name. name.now) c.args.names.now false
    (any_none (λ name. is_bad_length c.args.item.now.bytes (list_of c.args.item.now.bytes name.now c.args.item.now.item)) c.args.names.now c.each.name-index (list_any (λ name. is_bad_length c.args.item.now.bytes (list_of c.args.item.now.bytes name.now c.args.item.now.item)) c.args.names.now) c.each-test.false c.each.invariant)
