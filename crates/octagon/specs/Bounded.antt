-- What the calls of octagons take: bounds in a list, and coordinates within reach.
use Rattle.std.specs.Prelude.{◌^◌, ℤ, pos, List, slice_index_or}
use Rattle.plane.specs.Plane.{Bounds}
pub use Rattle.plane.specs.Narrow.{IsNearZero}
use Rattle.grid_num.specs.declared.Point.{Point}

-- the bounds in the order x, y, x + y, x - y, the lower one first
abbrev pub bounds_of : List ℤ → Bounds
bounds_of b =
    record {
      x0 = slice_index_or b 0 (pos 0);
      x1 = slice_index_or b 1 (pos 0);
      y0 = slice_index_or b 2 (pos 0);
      y1 = slice_index_or b 3 (pos 0);
      s0 = slice_index_or b 4 (pos 0);
      s1 = slice_index_or b 5 (pos 0);
      d0 = slice_index_or b 6 (pos 0);
      d1 = slice_index_or b 7 (pos 0);
    }

-- the bounds on x and y lie within 2 ^ 40, and those on x + y and x - y within 2 ^ 41
pub record AreInRange (b : Bounds) : Type 0 where
  pub x0 : IsNearZero (2 ^ 40) b.x0
  pub x1 : IsNearZero (2 ^ 40) b.x1
  pub y0 : IsNearZero (2 ^ 40) b.y0
  pub y1 : IsNearZero (2 ^ 40) b.y1
  pub s0 : IsNearZero (2 ^ 41) b.s0
  pub s1 : IsNearZero (2 ^ 41) b.s1
  pub d0 : IsNearZero (2 ^ 41) b.d0
  pub d1 : IsNearZero (2 ^ 41) b.d1

-- the point lies within 2 ^ 40
pub record IsInReach (p : Point) : Type 0 where
  pub x : IsNearZero (2 ^ 40) p.x
  pub y : IsNearZero (2 ^ 40) p.y
