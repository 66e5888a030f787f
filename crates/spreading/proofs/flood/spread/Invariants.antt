use Rattle.std.proofs.Common.{take}
use Rattle.spreading.specs.Inner.Flood.{AreSpread}
use Rattle.spreading.proofs.flood.spread.Given as goal

abbrev pub invariant-each : goal.invariant-each
invariant-each l = AreSpread (take l.j-index l.linked) l.label l.fn.labels.items l.fn.members.items l.labels.items l.members.items
