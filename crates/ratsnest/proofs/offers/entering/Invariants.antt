use Rattle.std.proofs.Common.{take}
use Rattle.ratsnest.specs.Inner.Best.{IsEntering}
use Rattle.ratsnest.proofs.offers.entering.Given as goal

abbrev pub invariant-each : goal.invariant-each
invariant-each l = IsEntering l.anchors l.cluster (take l.o-index l.left) l.moved.items
