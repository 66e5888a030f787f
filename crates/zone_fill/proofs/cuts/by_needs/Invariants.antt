use Rattle.std.proofs.Common.{take}
use Rattle.plane.specs.Plane.{StrictlyWithin}
use Rattle.centres.specs.Centres.{grown_need}
use Rattle.knockouts.specs.Obstacles.{need_of}
use Rattle.zone_fill.specs.Inner.Steps.{AreCutsFor}
use Rattle.zone_fill.proofs.cuts.by_needs.Given as goal

abbrev pub invariant-each : goal.invariant-each
invariant-each l = AreCutsFor (λ n x y. StrictlyWithin (grown_need l.radius (need_of n)) x y) (take l.need-index l.needs) l.cuts.items
