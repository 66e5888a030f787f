use Rattle.std.proofs.Common.{◌≡◌, map, take}
use Rattle.fills.specs.Fills.{brushed}
use Rattle.kept_copper.proofs.brush.all_grown.Given as goal

abbrev pub invariant-each : goal.invariant-each
invariant-each l = l.blots.items ≡ map (brushed l.radius) (take l.oct-index l.octs)
