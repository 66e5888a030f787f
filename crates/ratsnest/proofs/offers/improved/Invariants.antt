use Rattle.std.proofs.Common.{take}
use Rattle.ratsnest.specs.Inner.Best.{IsImproved}
use Rattle.ratsnest.proofs.offers.improved.Given as goal

abbrev pub invariant-each : goal.invariant-each
invariant-each l = IsImproved l.anchors (take l.m-index l.moved) l.fn.o l.best
