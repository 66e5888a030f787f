use Rattle.std.proofs.Common.{take}
use Rattle.plane.specs.Plane.{StrictlyWithin}
use Rattle.centres.specs.Centres.{grown_wall}
use Rattle.zone_fill.specs.Inner.Steps.{AreCutsFor}
use Rattle.zone_fill.proofs.cuts.by_walls.Given as goal

abbrev pub invariant-each : goal.invariant-each
invariant-each l = AreCutsFor (λ w x y. StrictlyWithin (grown_wall l.radius w) x y) (take l.wall-index l.walls) l.cuts.items
