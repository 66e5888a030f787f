use Rattle.std.proofs.Common.{◌∙◌, ap, sym, arith, length}
use Rattle.sexpr_text.specs.Items.{is_headed, children_of}
use Rattle.board_text.specs.Lists.{headed}
use Rattle.board_zones.proofs.Children.{counted_one, counted_not}
use Rattle.board_zones.proofs.lists.count_headed.Goals as goal
use Rattle.board_zones.proofs.lists.count_headed.Goals.{then-is_headed, else-is_headed}

pub each-preserved : goal.each-preserved
each-preserved c =
    elim c.if-is_headed.branch [
      | then-is_headed w ↦ record {
        few = omega (arith, w.count-is, c.each.invariant.few);
        sum = rw w.count-is (counted_one (is_headed c.args.item.now.bytes c.args.name.now) (children_of c.args.item.now.item) c.each.place c.child.result.item c.each.count (length (headed c.args.item.now.bytes c.args.name.now c.args.item.now.item))
            (omega (arith, c.each-test.true, c.len-place-end.ensures)) c.child.ensures.item (ap (λ b. is_headed b c.args.name.now c.child.result.item) (sym c.child.ensures.bytes) ∙ sym c.is_headed.ensures ∙ w.if-is_headed.true) c.each.invariant.sum);
      }
      | else-is_headed w ↦ record {
        few = omega (arith, w.count-is, c.each.invariant.few);
        sum = rw w.count-is (counted_not (is_headed c.args.item.now.bytes c.args.name.now) (children_of c.args.item.now.item) c.each.place c.child.result.item c.each.count (length (headed c.args.item.now.bytes c.args.name.now c.args.item.now.item))
            (omega (arith, c.each-test.true, c.len-place-end.ensures)) c.child.ensures.item (ap (λ b. is_headed b c.args.name.now c.child.result.item) (sym c.child.ensures.bytes) ∙ sym c.is_headed.ensures ∙ w.if-is_headed.false) c.each.invariant.sum);
      }
    ]
