-- Points that an octagon reaches, seen from its sides, and turned.
use Rattle.std.proofs.Common.{arith}
use Rattle.std.specs.Prelude.{ℤ, neg_ℤ}
use Rattle.std.proofs.lemmas.Int.{ints}
use Rattle.plane.specs.Plane.{PlanePoint, Bounds, In}
use Rattle.grid_num.proofs.Products.{mul_neg}
use Rattle.stacks.specs.declared.reach.Reach.{Reach}
use Rattle.stacks.specs.Inner.Reaches.{IsOctReach, IsWithinReach, scaled, turn}

-- a point of the octagon is reached
pub in_reached : (b : Bounds) (r : Reach) (p : PlanePoint) → IsOctReach b r → In b p → IsWithinReach (scaled p.scale r) p.x p.y
in_reached b r p e h =
    let k = p.scale in
    record {
      right = rw (e.right) h.x_high;
      right_down = rw (e.right_down) h.s_high;
      down = rw (e.down) h.y_high;
      left_down = rw (e.left_down) (omega (arith, ints, mul_neg k b.d0, h.d_low));
      left = rw (e.left) (omega (arith, ints, mul_neg k b.x0, h.x_low));
      left_up = rw (e.left_up) (omega (arith, ints, mul_neg k b.s0, h.s_low));
      up = rw (e.up) (omega (arith, ints, mul_neg k b.y0, h.y_low));
      right_up = rw (e.right_up) h.d_high;
    }

-- and what is reached is in the octagon
pub reached_in : (b : Bounds) (r : Reach) (p : PlanePoint) → IsOctReach b r → IsWithinReach (scaled p.scale r) p.x p.y → In b p
reached_in b r p e h =
    let k = p.scale in
    record {
      x_low = omega (arith, ints, mul_neg k b.x0, (rw (e.left) at h.left));
      x_high = rw (e.right) at h.right;
      y_low = omega (arith, ints, mul_neg k b.y0, (rw (e.up) at h.up));
      y_high = rw (e.down) at h.down;
      s_low = omega (arith, ints, mul_neg k b.s0, (rw (e.left_up) at h.left_up));
      s_high = rw (e.right_down) at h.right_down;
      d_low = omega (arith, ints, mul_neg k b.d0, (rw (e.left_down) at h.left_down));
      d_high = rw (e.right_up) at h.right_up;
    }

-- turned by a quarter
pub turned_reached : (r : Reach) (x y : ℤ) → IsWithinReach r x y → IsWithinReach (turn r) y (neg_ℤ x)
turned_reached r x y h = record {
  right = h.down;
  right_down = omega (arith, ints, h.left_down);
  down = h.left;
  left_down = omega (arith, ints, h.left_up);
  left = h.up;
  left_up = omega (arith, ints, h.right_up);
  up = omega (arith, ints, h.right);
  right_up = omega (arith, ints, h.right_down);
}

pub reached_turned : (r : Reach) (x y : ℤ) → IsWithinReach (turn r) y (neg_ℤ x) → IsWithinReach r x y
reached_turned r x y h = record {
  right = omega (arith, ints, h.up);
  right_down = omega (arith, ints, h.right_up);
  down = h.right;
  left_down = omega (arith, ints, h.right_down);
  left = h.down;
  left_up = omega (arith, ints, h.left_down);
  up = h.left;
  right_up = omega (arith, ints, h.left_up);
}
