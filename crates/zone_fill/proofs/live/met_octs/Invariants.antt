use Rattle.std.proofs.Common.{take}
use Rattle.fills.specs.Fills.{AreThose}
use Rattle.components.specs.Kept.{IsMet}
use Rattle.zone_fill.proofs.live.met_octs.Given as goal

abbrev pub invariant-each : goal.invariant-each
invariant-each l = AreThose (IsMet l.blots) (take l.oct-index l.octs) l.met.items
