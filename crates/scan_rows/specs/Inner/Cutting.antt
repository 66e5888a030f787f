-- Cutting off what lies beyond a side of an octagon.
use Rattle.std.specs.Prelude.{◌⊎◌, ◌↔◌, ◌^◌, List, ℤ, pos, neg_ℤ, ◌+ℤ◌, ◌-ℤ◌, ◌≤ℤ◌, ◌<ℤ◌}
use Rattle.plane.specs.Plane.{Bounds, Within}
use Rattle.grid_sets.specs.Points.{HasPoint, AreApart}
use Rattle.scan_rows.specs.declared.cut.Eight.{Eight}
use Rattle.scan_rows.specs.declared.cut.Side.{Side}
use Rattle.scan_rows.specs.declared.cut.Side.TheVariants.{Top, Bottom, Left, Right, TopLeft, BottomRight, BottomLeft, TopRight}

-- the eight numbers as bounds
abbrev pub bounds : Eight → Bounds
bounds e = record { x0 = e.x0; x1 = e.x1; y0 = e.y0; y1 = e.y1; s0 = e.s0; s1 = e.s1; d0 = e.d0; d1 = e.d1 }

-- no lower bound is below the reach of octagons, and no upper bound above it
pub record IsBounded (b : Bounds) : Type 0 where
  pub x0 : neg_ℤ (pos (2 ^ 40)) ≤ℤ b.x0
  pub x1 : b.x1 ≤ℤ pos (2 ^ 40)
  pub y0 : neg_ℤ (pos (2 ^ 40)) ≤ℤ b.y0
  pub y1 : b.y1 ≤ℤ pos (2 ^ 40)
  pub s0 : neg_ℤ (pos (2 ^ 41)) ≤ℤ b.s0
  pub s1 : b.s1 ≤ℤ pos (2 ^ 41)
  pub d0 : neg_ℤ (pos (2 ^ 41)) ≤ℤ b.d0
  pub d1 : b.d1 ≤ℤ pos (2 ^ 41)

-- the octagon's bound on that side
abbrev pub limit_of : Side → Bounds → ℤ
limit_of Top o = o.y0
limit_of Bottom o = o.y1
limit_of Left o = o.x0
limit_of Right o = o.x1
limit_of TopLeft o = o.s0
limit_of BottomRight o = o.s1
limit_of BottomLeft o = o.d0
limit_of TopRight o = o.d1

-- the grid point lies beyond a side with that bound
abbrev pub IsBeyond : Side → ℤ → ℤ → ℤ → Type 0
IsBeyond Top l x y = y <ℤ l
IsBeyond Bottom l x y = l <ℤ y
IsBeyond Left l x y = x <ℤ l
IsBeyond Right l x y = l <ℤ x
IsBeyond TopLeft l x y = (x +ℤ y) <ℤ l
IsBeyond BottomRight l x y = l <ℤ (x +ℤ y)
IsBeyond BottomLeft l x y = (x -ℤ y) <ℤ l
IsBeyond TopRight l x y = l <ℤ (x -ℤ y)

-- the new list also has the grid points within the bounds; it is apart if the old one was, and had none of them
pub record IsAdded (b : Bounds) (old new : List Bounds) : Type 0 where
  pub same : (x y : ℤ) → HasPoint new x y ↔ (HasPoint old x y ⊎ Within b x y)
  pub apart : AreApart old → ((x y : ℤ) → Within b x y → HasPoint old x y → ⊥) → AreApart new

-- what lies beyond the side was added to the list, and the rest is left
pub record IsCutOff (side : Side) (limit : ℤ) (b : Bounds) (old new : List Bounds) (rest : Bounds) : Type 0 where
  pub added : (x y : ℤ) → HasPoint new x y ↔ (HasPoint old x y ⊎ (Within b x y × IsBeyond side limit x y))
  pub left : (x y : ℤ) → Within rest x y ↔ (Within b x y × ¬ (IsBeyond side limit x y))
  pub apart : AreApart old → ((x y : ℤ) → Within b x y → HasPoint old x y → ⊥) → AreApart new
