-- An octagon whose bounds lie inside those of another.
use Rattle.std.proofs.Common.{arith}
use Rattle.std.specs.Prelude.{◌≤ℤ◌}
use Rattle.std.proofs.lemmas.Int.{ints}
use Rattle.plane.specs.Plane.{PlanePoint, Bounds, In}
use Rattle.grid_num.proofs.Products.{mul_le}

-- b lies inside c, bound by bound
pub record IsInside (b c : Bounds) : Type 0 where
  pub x0 : c.x0 ≤ℤ b.x0
  pub x1 : b.x1 ≤ℤ c.x1
  pub y0 : c.y0 ≤ℤ b.y0
  pub y1 : b.y1 ≤ℤ c.y1
  pub s0 : c.s0 ≤ℤ b.s0
  pub s1 : b.s1 ≤ℤ c.s1
  pub d0 : c.d0 ≤ℤ b.d0
  pub d1 : b.d1 ≤ℤ c.d1

pub inside_in : (b c : Bounds) (p : PlanePoint) → IsInside b c → In b p → In c p
inside_in b c p i h =
    let k = p.scale in
    record {
      x_low = omega (arith, ints, mul_le k c.x0 b.x0 i.x0, h.x_low);
      x_high = omega (arith, ints, mul_le k b.x1 c.x1 i.x1, h.x_high);
      y_low = omega (arith, ints, mul_le k c.y0 b.y0 i.y0, h.y_low);
      y_high = omega (arith, ints, mul_le k b.y1 c.y1 i.y1, h.y_high);
      s_low = omega (arith, ints, mul_le k c.s0 b.s0 i.s0, h.s_low);
      s_high = omega (arith, ints, mul_le k b.s1 c.s1 i.s1, h.s_high);
      d_low = omega (arith, ints, mul_le k c.d0 b.d0 i.d0, h.d_low);
      d_high = omega (arith, ints, mul_le k b.d1 c.d1 i.d1, h.d_high);
    }
