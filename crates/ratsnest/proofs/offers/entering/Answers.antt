use Rattle.std.proofs.Common.{add-one}
use Rattle.ratsnest.proofs.Ring.{entering_yes, entering_no}
use Rattle.ratsnest.proofs.offers.entering.Goals as goal
use Rattle.ratsnest.proofs.offers.entering.Goals.{then-anchor_at-cluster+in_ok-push, else-anchor_at-cluster}

pub each-preserved : goal.each-preserved
each-preserved c = rw (add-one c.each.o-index) (elim c.if-anchor_at-cluster.branch [
  | then-anchor_at-cluster+in_ok-push w ↦ rw (w.moved-is, w.in_ok-push.ensures.items)
      (entering_yes _ _ _ _ _ _ c.anchor_at.result c.each-test.true (c.requires.sound _ _ c.each-test.true) c.anchor_at.ensures
      w.if-anchor_at-cluster.true c.each.invariant)
  | else-anchor_at-cluster w ↦ rw w.moved-is
      (entering_no _ _ _ _ _ _ c.anchor_at.result c.each-test.true c.anchor_at.ensures w.if-anchor_at-cluster.false c.each.invariant)
])
