-- A brush at grid points: what a fill's cell covers.
use Rattle.std.specs.Prelude.{ℕ, ◌≤◌, ◌↔◌, ℤ}
use Rattle.plane.specs.Plane.{Bounds, PlanePoint, Within, In, IsTight, ball_of, IsInSum, moved}

-- p is in the brush of b at some grid point of the octagon
unfoldable pub IsBrushed : ℕ → Bounds → PlanePoint → Type 0
IsBrushed b c p = (x : ℤ) × (y : ℤ) × Within c x y × In (moved (ball_of b) x y) p

-- a tight octagon plus a brush of at least 10 is no more than the brush at the octagon's grid points: between them no
-- point is left out, at any scale
abbrev pub BrushLaw : Type 0
BrushLaw = (b : ℕ) (c : Bounds) (p : PlanePoint) → 10 ≤ b → IsTight c → IsInSum c (ball_of b) p ↔ IsBrushed b c p
