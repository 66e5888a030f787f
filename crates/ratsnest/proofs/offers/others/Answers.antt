use Rattle.std.proofs.Common.{add-one}
use Rattle.ratsnest.proofs.Ring.{rest_none, rest_yes, rest_no}
use Rattle.ratsnest.proofs.offers.others.Goals as goal
use Rattle.ratsnest.proofs.offers.others.Goals.{then-anchor_at-cluster+in_ok-push, else-anchor_at-cluster}

pub each-init : goal.each-init
each-init c = rw c.new-rest.ensures.items (rest_none _ _ _)

pub each-preserved : goal.each-preserved
each-preserved c = rw (add-one c.each.o-index) (elim c.if-anchor_at-cluster.branch [
  | then-anchor_at-cluster+in_ok-push w ↦ rw (w.rest-is, w.in_ok-push.ensures.items)
      (rest_yes _ _ _ _ _ _ _ c.anchor_at.result _ c.each-test.true c.anchor_at.ensures w.if-anchor_at-cluster.true w.improved.ensures c.each.invariant)
  | else-anchor_at-cluster w ↦ rw w.rest-is
      (rest_no _ _ _ _ _ _ _ c.anchor_at.result c.each-test.true c.anchor_at.ensures w.if-anchor_at-cluster.false c.each.invariant)
])
