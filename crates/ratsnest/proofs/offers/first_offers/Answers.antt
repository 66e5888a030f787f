use Rattle.std.proofs.Common.{add-one, arith}
use Rattle.ratsnest.proofs.Ring.{started_none, started_more, started_all}
use Rattle.ratsnest.proofs.offers.first_offers.Goals as goal

pub each-init : goal.each-init
each-init c = started_none _ _ c.new-left.ensures.items

pub each-preserved : goal.each-preserved
each-preserved c = rw (add-one c.each.k, c.in_ok-push.ensures.items) (started_more _ _ _ _ (omega arith) (omega arith) c.dist.ensures c.each.invariant)

pub returns : goal.returns
returns c = started_all _ _ c.each.k (omega arith) c.each.invariant
