-- The laws of octagons, over the points of the plane.
use Rattle.std.specs.Prelude.{ℕ, ◌≤◌, ◌*◌, ◌↔◌, ℤ, pos, ◌≤ℤ◌}
use Rattle.plane.specs.Plane.{PlanePoint, Bounds, Within, StrictlyWithin, times, In, StrictlyIn, IsTight, IsMeeting, IsInSum, AreNear, minus, ball_of, sum_of, moved, scaled_dist_sq}

-- the points that are a point of the one plus a point of the other are those of the octagon that adds up bound by bound
abbrev pub SumLaw : Type 0
SumLaw = (b c : Bounds) (p : PlanePoint) → IsTight b → IsTight c → In (sum_of b c) p ↔ IsInSum b c p

-- octagons that meet have a common point with whole or half coordinates
abbrev pub MeetingLaw : Type 0
MeetingLaw =
    (b c : Bounds) → IsTight b → IsTight c
    → IsMeeting b c ↔ ((x : ℤ) × (y : ℤ) × Within (times 2 b) x y × Within (times 2 c) x y)

-- the one is near the other at a exactly where some point of it is strictly in the other plus the ball of a
abbrev pub SeparationLaw : Type 0
SeparationLaw =
    (a : ℕ) (b c : Bounds) → 1 ≤ a → IsTight b → IsTight c
    → AreNear a b c ↔ ((p : PlanePoint) × In b p × StrictlyIn (sum_of c (ball_of a)) p)

-- a brush at a grid point is near an octagon at a exactly where the grid point is strictly in the octagon plus the ball
-- of a plus the brush
abbrev pub BarredLaw : Type 0
BarredLaw =
    (a b : ℕ) (c : Bounds) (x y : ℤ) → 1 ≤ a → IsTight c
    → AreNear a (moved (ball_of b) x y) c ↔ StrictlyWithin (sum_of (sum_of c (ball_of a)) (ball_of b)) x y

-- where octagons are not near at a, every two points of them have a distance of at least a
abbrev pub OctDistanceLaw : Type 0
OctDistanceLaw =
    (a : ℕ) (b c : Bounds) → (AreNear a b c → ⊥) → (p q : PlanePoint) → In b p → In c q
    → pos ((a * (minus p q).scale) * (a * (minus p q).scale)) ≤ℤ scaled_dist_sq p q
