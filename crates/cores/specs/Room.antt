-- Places within reach of the origin.
use Rattle.std.specs.Prelude.{ℕ, pos, neg_ℤ, ◌≤ℤ◌}
use Rattle.plane.specs.Plane.{Bounds}
use Rattle.touching.specs.Core.{Spot, Core, area, line}
use Rattle.grid_num.specs.declared.Point.{Point}
pub use Rattle.plane.specs.Narrow.{IsNearZero}
pub use Rattle.touching.specs.Core.{spot}

-- both coordinates lie within m of 0
pub record IsInRoom (m : ℕ) (p : Point) : Type 0 where
  pub x : IsNearZero m p.x
  pub y : IsNearZero m p.y

-- an area lies within m of 0, in x and in y
pub record IsAreaInRoom (m : ℕ) (b : Bounds) : Type 0 where
  pub left : neg_ℤ (pos m) ≤ℤ b.x0
  pub right : b.x1 ≤ℤ pos m
  pub top : neg_ℤ (pos m) ≤ℤ b.y0
  pub bottom : b.y1 ≤ℤ pos m

-- a line does where both its ends do
pub record IsLineInRoom (m : ℕ) (s t : Spot) : Type 0 where
  pub sx : IsNearZero m s.x
  pub sy : IsNearZero m s.y
  pub tx : IsNearZero m t.x
  pub ty : IsNearZero m t.y

-- all coordinates of a core lie within m of 0
unfoldable pub IsCoreInRoom : ℕ → Core → Type 0
IsCoreInRoom m (area b) = IsAreaInRoom m b
IsCoreInRoom m (line s t) = IsLineInRoom m s t
