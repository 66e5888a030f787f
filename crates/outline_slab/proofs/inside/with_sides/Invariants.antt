use Rattle.std.proofs.Common.{◌≡◌, ◌++◌, take}
use Rattle.plane.specs.Covering.{edges_of}
use Rattle.outline_slab.specs.Cuts.{all_edges}
use Rattle.outline_slab.proofs.inside.with_sides.Given as goal

abbrev pub invariant-each : goal.invariant-each
invariant-each l = all_edges l.sides.items ≡ all_edges l.initial.sides.items ++ take l.i (edges_of l.corners)
