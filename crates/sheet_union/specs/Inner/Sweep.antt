-- Octagons that begin and end along a sweep from the top, in units; rows are in nanometres.
use Rattle.std.specs.Prelude.{List, [], ◌∷◌, ℤ, pos, ◌*ℤ◌, int_le, if◌then◌else◌}
use Rattle.plane.specs.Plane.{Bounds}

-- those at the front of a list that begin in the row t or above it
unfoldable pub begun : ℤ → List Bounds → List Bounds
begun t [] = []
begun t (b ∷ bs) = if int_le (pos 2 *ℤ b.y0) t then b ∷ begun t bs else []

-- the list without them
unfoldable pub waiting : ℤ → List Bounds → List Bounds
waiting t [] = []
waiting t (b ∷ bs) = if int_le (pos 2 *ℤ b.y0) t then waiting t bs else b ∷ bs

-- those that end in the row u or below it
unfoldable pub reaching_below : ℤ → List Bounds → List Bounds
reaching_below u [] = []
reaching_below u (b ∷ bs) = if int_le u (pos 2 *ℤ b.y1) then b ∷ reaching_below u bs else reaching_below u bs
