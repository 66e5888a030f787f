use Rattle.std.proofs.Common.{refl}
use Rattle.sheet_union.proofs.Opening.{kept_step, left_step, kept_end}
use Rattle.sheet_union.proofs.sweep.still_open.Goals as goal
use Rattle.sheet_union.proofs.sweep.still_open.Goals.{then-row-y1+in_ok-push, else-row-y1}

pub each-init : goal.each-init
each-init c = rw c.new-open.ensures.items refl

pub each-preserved : goal.each-preserved
each-preserved c =
    elim c.if-row-y1.branch [
      | then-row-y1+in_ok-push w ↦
          rw w.open-is (kept_step c.oct-item.result c.args.octs.now c.each.oct-index _ _ _ _ _ c.y1.ensures.oct c.y1.ensures.value w.if-row-y1.true c.each-test.true c.oct-item.is w.in_ok-push.ensures.items c.each.invariant)
      | else-row-y1 w ↦
          rw w.open-is (left_step c.oct-item.result c.args.octs.now c.each.oct-index _ _ _ _ c.y1.ensures.oct c.y1.ensures.value w.if-row-y1.false c.each-test.true c.oct-item.is c.each.invariant)
    ]

pub returns : goal.returns
returns c = kept_end c.args.octs.now c.each.oct-index c.args.row _ c.ranges.row c.each-test.false c.each.invariant
