-- How far octagons reach, for callers that must meet `HasRoom`.
use Rattle.std.specs.Prelude.{ℕ, ◌+◌, ◌≤◌, ◌^◌, ℤ, pos, neg_ℤ, ◌≤ℤ◌}
use Rattle.plane.specs.Plane.{Bounds, Within, IsTight, HasRoom, ball_of, sum_of, moved}
use Rattle.plane.specs.Narrow.{IsNearZero}

-- x and y lie within m of 0
pub record IsAround (m : ℕ) (b : Bounds) : Type 0 where
  pub x_low : neg_ℤ (pos m) ≤ℤ b.x0
  pub x_high : b.x1 ≤ℤ pos m
  pub y_low : neg_ℤ (pos m) ≤ℤ b.y0
  pub y_high : b.y1 ≤ℤ pos m

-- the ball of a reaches a
abbrev pub BallReachLaw : Type 0
BallReachLaw = (a : ℕ) → IsAround a (ball_of a)

-- reaches add up
abbrev pub SumReachLaw : Type 0
SumReachLaw = (m n : ℕ) (b c : Bounds) → IsAround m b → IsAround n c → IsAround (m + n) (sum_of b c)

abbrev pub MovedReachLaw : Type 0
MovedReachLaw = (m n : ℕ) (b : Bounds) (x y : ℤ) → IsAround m b → IsNearZero n x → IsNearZero n y → IsAround (m + n) (moved b x y)

-- an octagon reaches as far as its grid points do
abbrev pub PointsReachLaw : Type 0
PointsReachLaw = (m : ℕ) (b : Bounds) → IsTight b → ((x y : ℤ) → Within b x y → IsNearZero m x × IsNearZero m y) → IsAround m b

-- what reaches at most 2 ^ 40 has room
abbrev pub RoomLaw : Type 0
RoomLaw = (m : ℕ) (b : Bounds) → m ≤ 2 ^ 40 → IsAround m b → HasRoom b
