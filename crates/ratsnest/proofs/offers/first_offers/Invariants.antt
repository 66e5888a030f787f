use Rattle.ratsnest.proofs.Ring.{IsStarted}
use Rattle.ratsnest.proofs.offers.first_offers.Given as goal

abbrev pub invariant-each : goal.invariant-each
invariant-each l = IsStarted l.anchors l.left.items l.k
