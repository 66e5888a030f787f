use Rattle.std.proofs.Common.{arith, refl}
use Rattle.ratsnest.specs.Ratsnest.{IsNearby}
use Rattle.ratsnest.proofs.Ring.{all_none, all_push, longer_by_one}
use Rattle.geometry_tests.proofs.lines.generated.Goals as goal

pub each-init : goal.each-init
each-init c = record { near = rw c.new-anchors.ensures.items (all_none IsNearby); count = rw c.new-anchors.ensures.items refl }

pub each-preserved : goal.each-preserved
each-preserved c = record {
  near = rw c.in_ok-push.ensures.items (all_push IsNearby _ _ c.each.invariant.near c.near.ensures);
  count = rw (c.in_ok-push.ensures.items, longer_by_one) (omega (arith, c.each.invariant.count));
}

pub returns-clause-near : goal.returns-clause-near
returns-clause-near c = c.each.invariant.near

pub returns-clause-count : goal.returns-clause-count
returns-clause-count c = omega (arith, c.each.invariant.count)
