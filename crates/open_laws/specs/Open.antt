-- Octagons whose insides meet, grid points that are linked by brushes, and the order of grid points. An octagon's
-- inside is the points strictly in it, off its edge.
use Rattle.std.specs.Prelude.{◌≡◌, ◌⊎◌, ℕ, List, [], ◌∷◌, ◌-ℤ◌, ◌≤ℤ◌, ◌<ℤ◌}
use Rattle.plane.specs.Plane.{PlanePoint, Bounds, Within, In, StrictlyIn, IsMeeting, ball_of, moved}
use Rattle.grid_num.specs.declared.Point.{Point}
use Rattle.grid_sets.specs.Points.{HasPoint}

-- b enters c: some point strictly in b lies in c, be it on c's edge
unfoldable pub ReachesInto : Bounds → Bounds → Type 0
ReachesInto b c = (p : PlanePoint) × StrictlyIn b p × In c p

-- the two overlap: some point lies strictly in both
unfoldable pub AreOverlapping : Bounds → Bounds → Type 0
AreOverlapping b c = (p : PlanePoint) × StrictlyIn b p × StrictlyIn c p

-- both are grid points of the octagon, and the brush at the one meets the brush at the other
pub record IsLinkedIn (b : ℕ) (o : Bounds) (p q : Point) : Type 0 where
  pub first : Within o p.x p.y
  pub second : Within o q.x q.y
  pub meet : IsMeeting (moved (ball_of b) p.x p.y) (moved (ball_of b) q.x q.y)

-- p is q or comes before it: least y, then least x
abbrev pub IsBefore : Point → Point → Type 0
IsBefore p q = (p.y <ℤ q.y) ⊎ ((p.y ≡ q.y) × (p.x ≤ℤ q.x))

-- the left end of the octagon's top side
abbrev pub top_left : Bounds → Point
top_left o = record { x = o.s0 -ℤ o.y0; y = o.y0 }

-- of each octagon the left end of the top side is a grid point of it, and comes before all other grid points of that
-- octagon and of those after it
unfoldable pub AreFirsts : List Bounds → Type 0
AreFirsts [] = Unit {0}
AreFirsts (o ∷ os) =
    Within o (top_left o).x (top_left o).y
    × ((q : Point) → HasPoint (o ∷ os) q.x q.y → IsBefore (top_left o) q)
    × AreFirsts os
