use Rattle.std.proofs.Common.{ℕ, ◌<◌}
use Rattle.std.specs.Prelude.{slice_index_or}
use Rattle.plane.specs.Covering.{Edge, edges_of}
use Rattle.outline_slab.specs.Rules.{IsSide}
use Rattle.outline_slab.proofs.make.first_off_angle.Given as goal

-- the edges so far are right
abbrev pub invariant-each : goal.invariant-each
invariant-each l = (k : ℕ) (d : Edge) → k < l.i → IsSide (slice_index_or (edges_of l.vertices) k d)
