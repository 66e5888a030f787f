use Rattle.std.proofs.Common.{ℕ, ◌<◌}
use Rattle.std.specs.Prelude.{slice_index_or}
use Rattle.grid_num.specs.declared.Point.{Point}
use Rattle.outline_slab.specs.Rules.{IsOnGrid}
use Rattle.outline_slab.proofs.make.first_off_grid.Given as goal

-- the vertices so far are on the grid
abbrev pub invariant-each : goal.invariant-each
invariant-each l = (k : ℕ) (d : Point) → k < l.i → IsOnGrid (slice_index_or l.vertices k d)
