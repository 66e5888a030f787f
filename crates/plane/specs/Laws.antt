-- The laws of the plane that the crates above rest on.
use Rattle.std.specs.Prelude.{◌≡◌, ℕ, ◌*◌, ◌↔◌, ℤ, pos, ◌*ℤ◌, ◌≤ℤ◌}
use Rattle.plane.specs.Plane.{PlanePoint, Bounds, Within, StrictlyWithin, In, StrictlyIn, IsTight, IsAttained, IsNear, minus, ball_of, grid_point, moved, box_of, scaled_dist_sq}

-- a grid point is in the octagon where its coordinates meet the bounds
abbrev pub GridLaw : Type 0
GridLaw = (b : Bounds) (x y : ℤ) → In b (grid_point x y) ↔ Within b x y

-- and strictly in it where they meet them without equality
abbrev pub StrictGridLaw : Type 0
StrictGridLaw = (b : Bounds) (x y : ℤ) → StrictlyIn b (grid_point x y) ↔ StrictlyWithin b x y

-- near at a is: strictly in the ball of a, at the difference
abbrev pub NearBallLaw : Type 0
NearBallLaw = (a : ℕ) (p q : PlanePoint) → IsNear a p q ↔ StrictlyIn (ball_of a) (minus p q)

-- points that are not near at a have a squared distance of at least a * a
abbrev pub EuclideanLaw : Type 0
EuclideanLaw =
    (a : ℕ) (p q : PlanePoint) → (IsNear a p q → ⊥)
    → pos ((a * (minus p q).scale) * (a * (minus p q).scale)) ≤ℤ scaled_dist_sq p q

-- bounds are tight exactly where each of them is attained by a grid point
abbrev pub TightLaw : Type 0
TightLaw = (b : Bounds) → IsTight b ↔ IsAttained b

-- tight bounds are told by their grid points: two that have the same are the same
abbrev pub SamePointsLaw : Type 0
SamePointsLaw = (b c : Bounds) → IsTight b → IsTight c → ((x y : ℤ) → Within b x y ↔ Within c x y) → b ≡ c

-- a point is in the moved octagon where the point moved back is in the octagon
abbrev pub MovedLaw : Type 0
MovedLaw = (b : Bounds) (x y : ℤ) (p : PlanePoint) → In (moved b x y) p ↔ In b (minus p (grid_point x y))

-- and strictly in it where the point moved back is strictly in the octagon
abbrev pub StrictMovedLaw : Type 0
StrictMovedLaw = (b : Bounds) (x y : ℤ) (p : PlanePoint) → StrictlyIn (moved b x y) p ↔ StrictlyIn b (minus p (grid_point x y))

-- x and y lie between the sides of the rectangle, at the point's scale
pub record IsInBox (x0 x1 y0 y1 : ℤ) (p : PlanePoint) : Type 0 where
  pub left : (pos p.scale *ℤ x0) ≤ℤ p.x
  pub right : p.x ≤ℤ (pos p.scale *ℤ x1)
  pub top : (pos p.scale *ℤ y0) ≤ℤ p.y
  pub bottom : p.y ≤ℤ (pos p.scale *ℤ y1)

-- the octagon of a rectangle has just the rectangle's points
abbrev pub BoxLaw : Type 0
BoxLaw = (x0 x1 y0 y1 : ℤ) (p : PlanePoint) → In (box_of x0 x1 y0 y1) p ↔ IsInBox x0 x1 y0 y1 p

-- and it is tight where the rectangle has a point
abbrev pub TightBoxLaw : Type 0
TightBoxLaw = (x0 x1 y0 y1 : ℤ) → x0 ≤ℤ x1 → y0 ≤ℤ y1 → IsTight (box_of x0 x1 y0 y1)
