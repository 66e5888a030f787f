-- Octagons that fill an area up: each of its points off its edges lies in one that isn't flat. An area's edges alone
-- may lie in flat octagons, which only touch what is beside them; so what overlaps the area by more than its edges
-- overlaps an octagon by more than a line.
use Rattle.std.specs.Prelude.{List, Any}
use Rattle.plane.specs.Plane.{PlanePoint, Bounds, In, StrictlyIn}
use Rattle.plane.specs.Covering.{Edge, Covers}

-- p lies in an octagon of the list that isn't flat: it has a point strictly inside
abbrev pub IsInStout : List Bounds → PlanePoint → Type 0
IsInStout octs p = Any (λ o. In o p × ((q : PlanePoint) × StrictlyIn o q)) octs

-- each point that P holds of does
abbrev pub AreFilling : List Bounds → (PlanePoint → Type 0) → Type 0
AreFilling octs P = (p : PlanePoint) → P p → IsInStout octs p

-- p is in the frame, its rim counted in, and the edges don't cover it
abbrev pub IsLeftOver : List Edge → Bounds → PlanePoint → Type 0
IsLeftOver es b p = In b p × (Covers es p → ⊥)
