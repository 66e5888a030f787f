use Rattle.std.proofs.Common.{◌∙◌, map, sym, arith}
use Rattle.sexpr_text.specs.Items.{children_of}
use Rattle.board_text.specs.Layers.{is_layer, layers_in}
use Rattle.sexpr_text.specs.Parts.{part_of}
use Rattle.board_text.proofs.Walks.{kept_more, kept_not, kept_all}
use Rattle.board_items.proofs.stack.layers_in.Goals as goal
use Rattle.board_items.proofs.stack.layers_in.Goals.{then-is_layer+in_ok-push, else-is_layer}

pub each-preserved : goal.each-preserved
each-preserved c =
    let all = map (part_of c.args.item.now.bytes) (layers_in c.args.item.now.item) in
    elim c.if-is_layer.branch [
      | then-is_layer+in_ok-push w ↦ rw (w.layers-is, w.in_ok-push.ensures.items)
          (kept_more c.args.item.now.bytes is_layer (children_of c.args.item.now.item) c.each.place c.each.layers.items all c.child-layer.result (omega (arith, c.each-test.true, c.len-place-end.ensures))
          c.child-layer.ensures.bytes c.child-layer.ensures.item (sym c.is_layer.ensures ∙ w.if-is_layer.true) c.each.invariant)
      | else-is_layer w ↦ rw w.layers-is
          (kept_not c.args.item.now.bytes is_layer (children_of c.args.item.now.item) c.each.place c.each.layers.items all c.child-layer.result.item (omega (arith, c.each-test.true, c.len-place-end.ensures))
          c.child-layer.ensures.item (sym c.is_layer.ensures ∙ w.if-is_layer.false) c.each.invariant)
    ]

pub returns : goal.returns
returns c =
    kept_all c.args.item.now.bytes is_layer (children_of c.args.item.now.item) c.each.place c.each.layers.items (map (part_of c.args.item.now.bytes) (layers_in c.args.item.now.item))
    (omega (arith, c.each-test.false, c.len-place-end.ensures)) c.each.invariant
