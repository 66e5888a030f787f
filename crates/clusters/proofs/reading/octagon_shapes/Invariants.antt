use Rattle.std.proofs.Common.{◌≡◌, map, take}
use Rattle.fill_rules.specs.Clusters.{labelled, octagon_copper}
use Rattle.clusters.proofs.reading.octagon_shapes.Given as goal

abbrev pub invariant-each : goal.invariant-each
invariant-each l = l.shapes.items ≡ map octagon_copper (labelled l.first (take l.k l.octs) (take l.k l.labels))
