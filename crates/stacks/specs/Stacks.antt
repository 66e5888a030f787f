-- Fewer octagons with the same points.
--
--       ______            ______
--      /      \          /      \      each piece reaches into the one below it by the brush, so where their
--     |________|   ->   |        |     sides go straight on, the least octagon round both has their points
--     |________|        |        |
--      \______/          \______/
use Rattle.std.specs.Prelude.{◌↔◌, ◌⊎◌, ℕ, List, Any}
use Rattle.std.specs.List.{All}
use Rattle.plane.specs.Plane.{PlanePoint, Bounds, In}
use Rattle.octagon.specs.Room.{IsAround}
use Rattle.octagon.specs.Inner.Hull.{IsLesser, IsGreater}
use Rattle.strips.specs.Strips.{HasInside}

-- h reaches to each side as far as the farther of a and b: it is the least octagon round both
pub record IsHull (a b h : Bounds) : Type 0 where
  pub x0 : IsLesser a.x0 b.x0 h.x0
  pub x1 : IsGreater a.x1 b.x1 h.x1
  pub y0 : IsLesser a.y0 b.y0 h.y0
  pub y1 : IsGreater a.y1 b.y1 h.y1
  pub s0 : IsLesser a.s0 b.s0 h.s0
  pub s1 : IsGreater a.s1 b.s1 h.s1
  pub d0 : IsLesser a.d0 b.d0 h.d0
  pub d1 : IsGreater a.d1 b.d1 h.d1

-- h has just the points of a and b together
unfoldable pub IsUnion : Bounds → Bounds → Bounds → Type 0
IsUnion a b h = (p : PlanePoint) → In h p ↔ (In a p ⊎ In b p)

-- the stacks have just the points of the pieces together, at every scale
unfoldable pub HaveSameUnion : List Bounds → List Bounds → Type 0
HaveSameUnion pieces stacks = (p : PlanePoint) → Any (λ b. In b p) stacks ↔ Any (λ b. In b p) pieces

-- where all pieces have points strictly inside, so have the stacks
abbrev pub StayThick : List Bounds → List Bounds → Type 0
StayThick pieces stacks = All (λ b. HasInside b) pieces → All (λ b. HasInside b) stacks

-- within whatever bounds the pieces lie, so do the stacks
abbrev pub StayAround : List Bounds → List Bounds → Type 0
StayAround pieces stacks = (m : ℕ) → All (λ b. IsAround m b) pieces → All (λ b. IsAround m b) stacks
