use Rattle.std.proofs.Common.{take}
use Rattle.fill_rules.specs.Clusters.{labelled}
use Rattle.clusters.specs.Inner.Corners.{IsLeastCorner}
use Rattle.clusters.proofs.anchors.least_corner.Given as goal

abbrev pub invariant-each : goal.invariant-each
invariant-each l = IsLeastCorner (labelled l.first (take l.k l.pieces) (take l.k l.parts)) l.least
