-- How far octagons reach.
use Rattle.std.proofs.Common.{ℕ, ◌+◌, ◌≤◌, ◌^◌, arith}
use Rattle.std.specs.Prelude.{ℤ, ◌-ℤ◌}
use Rattle.std.proofs.lemmas.Int.{ints}
use Rattle.plane.specs.Plane.{HasRoom, ball_of, sum_of, moved}
use Rattle.plane.specs.Narrow.{IsNearZero}
use Rattle.plane.proofs.Tight.{top_left_x, top_right_x, top_left_y, bottom_right_y}
use Rattle.octagon.specs.Room.{BallReachLaw, SumReachLaw, MovedReachLaw, PointsReachLaw, RoomLaw}

pub ball_reach : BallReachLaw
unfolding ball_of
ball_reach a = record { x_low = omega (arith, ints); x_high = omega (arith, ints); y_low = omega (arith, ints); y_high = omega (arith, ints) }

pub sum_reach : SumReachLaw
sum_reach m n b c h k = record {
  x_low = omega (arith, ints, h.x_low, k.x_low);
  x_high = omega (arith, ints, h.x_high, k.x_high);
  y_low = omega (arith, ints, h.y_low, k.y_low);
  y_high = omega (arith, ints, h.y_high, k.y_high);
}

pub moved_reach : MovedReachLaw
moved_reach m n b x y h k l = record {
  x_low = omega (arith, ints, h.x_low, k.low);
  x_high = omega (arith, ints, h.x_high, k.high);
  y_low = omega (arith, ints, h.y_low, l.low);
  y_high = omega (arith, ints, h.y_high, l.high);
}

pub points_reach : PointsReachLaw
points_reach m b t f = record {
  x_low = (f b.x0 (b.s0 -ℤ b.x0) (top_left_x b t)).0.low;
  x_high = (f b.x1 (b.x1 -ℤ b.d1) (top_right_x b t)).0.high;
  y_low = (f (b.s0 -ℤ b.y0) b.y0 (top_left_y b t)).1.low;
  y_high = (f (b.s1 -ℤ b.y1) b.y1 (bottom_right_y b t)).1.high;
}

pub room_law : RoomLaw
room_law m b l h = record {
  x_low = omega (arith, ints, h.x_low);
  x_high = omega (arith, ints, h.x_high);
  y_low = omega (arith, ints, h.y_low);
  y_high = omega (arith, ints, h.y_high);
}

-- ---- two balls, and a ball that is moved
pub balls_room : (a b : ℕ) → a + b ≤ 2 ^ 40 → HasRoom (sum_of (ball_of a) (ball_of b))
balls_room a b l = room_law (a + b) (sum_of (ball_of a) (ball_of b)) l (sum_reach a b (ball_of a) (ball_of b) (ball_reach a) (ball_reach b))

pub moved_ball_room : (a n : ℕ) (x y : ℤ) → a + n ≤ 2 ^ 40 → IsNearZero n x → IsNearZero n y → HasRoom (moved (ball_of a) x y)
moved_ball_room a n x y l h k = room_law (a + n) (moved (ball_of a) x y) l (moved_reach a n (ball_of a) x y (ball_reach a) h k)
