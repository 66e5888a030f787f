use Rattle.std.proofs.Common.{ℕ, ◌<◌, get_or}
use Rattle.copper_shape.specs.Shapes.{Copper}
use Rattle.islands.specs.Held.{IsTouching}
use Rattle.islands.proofs.held.is_touched.Given as goal

-- none so far touches
abbrev pub invariant-each : goal.invariant-each
invariant-each l = (k : ℕ) (d : Copper) → k < l.shape-index → IsTouching (get_or l.anchors k d) l.oct → ⊥
