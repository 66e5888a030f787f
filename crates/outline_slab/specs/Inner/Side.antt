-- The edges of a chain as the code has them.
use Rattle.std.specs.Prelude.{◌≡◌, ◌⊎◌, ℤ, pos, neg_ℤ, ◌<ℤ◌}
use Rattle.plane.specs.Covering.{Edge}
use Rattle.outline_slab.specs.declared.side.Side.{Side}

-- a side as an edge
abbrev pub side_edge : Side → Edge
side_edge s = record { start = s.start; finish = s.finish }

-- the two lie on the same side of 0
abbrev pub IsSameSign : ℤ → ℤ → Type 0
IsSameSign u v = ((pos 0 <ℤ u) × (pos 0 <ℤ v)) ⊎ (((u ≡ pos 0) × (v ≡ pos 0)) ⊎ ((u <ℤ pos 0) × (v <ℤ pos 0)))

-- a way of that run and rise is level, upright or slanted by 45 degrees
abbrev pub IsEighth : ℤ → ℤ → Type 0
IsEighth run rise = (rise ≡ pos 0) ⊎ ((run ≡ pos 0) ⊎ ((run ≡ rise) ⊎ (run ≡ neg_ℤ rise)))
