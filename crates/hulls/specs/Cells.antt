-- The cells of places that lie off the grid, and the least octagon round grid points. A place is given by whole
-- coordinates and by how many of these make a unit of the grid.
use Rattle.std.specs.Prelude.{ℕ, ◌/◌, ℤ, pos, negsuc, neg_ℤ, ◌+ℤ◌, ◌-ℤ◌, List, [], ◌∷◌, ◌++◌}
use Rattle.std.specs.Int.{int_min, int_max}
use Rattle.plane.specs.Plane.{Bounds}
use Rattle.grid_num.specs.declared.Point.{Point}

-- x / n, rounded down and up: the greatest m with n * m at most x, the least with n * m at least x (`rounding_law`)
unfoldable pub floor_of : ℕ → ℤ → ℤ
floor_of n (pos a) = pos (a / n)
floor_of n (negsuc a) = negsuc (a / n)

-- rounded up
unfoldable pub ceil_of : ℕ → ℤ → ℤ
ceil_of n x = neg_ℤ (floor_of n (neg_ℤ x))

-- the grid points round the place (x / n, y / n), each coordinate rounded down and up: four, or two or one where the
-- place lies on lines of the grid
--      0 . . 1
--      .   p .
--      2 . . 3
unfoldable pub points_round : ℕ → Point → List Point
points_round n p =
    record { x = floor_of n p.x; y = floor_of n p.y }
    ∷ record { x = ceil_of n p.x; y = floor_of n p.y }
    ∷ record { x = floor_of n p.x; y = ceil_of n p.y }
    ∷ record { x = ceil_of n p.x; y = ceil_of n p.y }
    ∷ []

-- those of all places
unfoldable pub points_round_all : ℕ → List Point → List Point
points_round_all n [] = []
points_round_all n (p ∷ ps) = points_round n p ++ points_round_all n ps

-- the octagon of the one grid point
abbrev pub octagon_at : Point → Bounds
octagon_at p =
    record {
      x0 = p.x;
      x1 = p.x;
      y0 = p.y;
      y1 = p.y;
      s0 = p.x +ℤ p.y;
      s1 = p.x +ℤ p.y;
      d0 = p.x -ℤ p.y;
      d1 = p.x -ℤ p.y;
    }

-- the octagon, widened so that it also holds the grid point
abbrev pub widened : Bounds → Point → Bounds
widened b p =
    record {
      x0 = int_min b.x0 p.x;
      x1 = int_max b.x1 p.x;
      y0 = int_min b.y0 p.y;
      y1 = int_max b.y1 p.y;
      s0 = int_min b.s0 (p.x +ℤ p.y);
      s1 = int_max b.s1 (p.x +ℤ p.y);
      d0 = int_min b.d0 (p.x -ℤ p.y);
      d1 = int_max b.d1 (p.x -ℤ p.y);
    }

-- the least octagon that holds the grid points (`least_law`); with none of them, which nothing asks for, that of 0
unfoldable pub around : List Point → Bounds
around [] = octagon_at (record { x = pos 0; y = pos 0 })
around (p ∷ []) = octagon_at p
around (p ∷ (q ∷ qs)) = widened (around (q ∷ qs)) p
