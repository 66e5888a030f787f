use Rattle.std.proofs.Common.{◌≡◌, map, take}
use Rattle.plane.specs.Units.{finer}
use Rattle.outline_slab.proofs.make.all_halved.Given as goal

abbrev pub invariant-each : goal.invariant-each
invariant-each l = map (finer 2) l.units.items ≡ take l.vertex-index l.vertices
