-- The least octagon round points, point by point.
use Rattle.std.specs.Prelude.{◌≡◌, ◌⊎◌, ℤ, ◌+ℤ◌, ◌-ℤ◌, ◌≤ℤ◌}
use Rattle.plane.specs.Plane.{Bounds}

-- the octagon of the one grid point
pub record IsOctAt (b : Bounds) (x y : ℤ) : Type 0 where
  pub x0 : b.x0 ≡ x
  pub x1 : b.x1 ≡ x
  pub y0 : b.y0 ≡ y
  pub y1 : b.y1 ≡ y
  pub s0 : b.s0 ≡ x +ℤ y
  pub s1 : b.s1 ≡ x +ℤ y
  pub d0 : b.d0 ≡ x -ℤ y
  pub d1 : b.d1 ≡ x -ℤ y

-- m is the lesser of the two
pub record IsLesser (a b m : ℤ) : Type 0 where
  pub first : m ≤ℤ a
  pub second : m ≤ℤ b
  pub is : (m ≡ a) ⊎ (m ≡ b)

-- m is the greater of the two
pub record IsGreater (a b m : ℤ) : Type 0 where
  pub first : a ≤ℤ m
  pub second : b ≤ℤ m
  pub is : (m ≡ a) ⊎ (m ≡ b)

-- r has the lesser lower bounds and the greater upper bounds of b and the grid point
pub record IsWidened (b : Bounds) (x y : ℤ) (r : Bounds) : Type 0 where
  pub x0 : IsLesser b.x0 x r.x0
  pub x1 : IsGreater b.x1 x r.x1
  pub y0 : IsLesser b.y0 y r.y0
  pub y1 : IsGreater b.y1 y r.y1
  pub s0 : IsLesser b.s0 (x +ℤ y) r.s0
  pub s1 : IsGreater b.s1 (x +ℤ y) r.s1
  pub d0 : IsLesser b.d0 (x -ℤ y) r.d0
  pub d1 : IsGreater b.d1 (x -ℤ y) r.d1
