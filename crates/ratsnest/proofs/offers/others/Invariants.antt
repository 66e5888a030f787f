use Rattle.std.proofs.Common.{take}
use Rattle.ratsnest.specs.Inner.Best.{IsRestOfOffers}
use Rattle.ratsnest.proofs.offers.others.Given as goal

abbrev pub invariant-each : goal.invariant-each
invariant-each l = IsRestOfOffers l.anchors l.cluster l.moved (take l.o-index l.left) l.rest.items
