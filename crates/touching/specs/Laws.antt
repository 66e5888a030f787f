-- The laws of touching: what the decision decides, and where the least distance of two cores is.
use Rattle.std.specs.Prelude.{◌≡◌, ℕ, ◌+◌, ◌*◌, ◌⊎◌, ◌↔◌, pos, ◌*ℤ◌, ◌≤ℤ◌}
use Rattle.plane.specs.Plane.{PlanePoint, grid_point, minus, scaled_dist_sq}
use Rattle.touching.specs.Core.{Spot, Core, area, line, OnLine, InCore, IsWhole, IsReached, InCopper, Touches}
use Rattle.touching.specs.Inner.Decision.{Side, start_of, end_of, AreClose}

-- the decision on whole numbers holds exactly where the cores are within reach: of all their points, at every scale
abbrev pub DecisionLaw : Type 0
DecisionLaw = (r : ℕ) (c d : Core) → IsWhole c → IsWhole d → AreClose (r * r) c d ↔ Touches r c d

-- touching has no order
abbrev pub TouchingOrderLaw : Type 0
TouchingOrderLaw = (r : ℕ) (c d : Core) → Touches r c d ↔ Touches r d c

-- touching is what it says: two pieces of copper touch exactly where they have a point in common
abbrev pub CopperLaw : Type 0
CopperLaw = (a b : ℕ) (c d : Core) → Touches (a + b) c d ↔ ((p : PlanePoint) × InCopper c a p × InCopper d b p)

-- some point is in both
unfoldable pub AreMeeting : Core → Core → Type 0
AreMeeting c d = (p : PlanePoint) × InCore c p × InCore d p

-- a side of a core, from s to t: of an area one of the eight, of a line the line itself
unfoldable pub HasSide : Core → Spot → Spot → Type 0
HasSide (area b) s t = (k : Side) × (s ≡ start_of b k) × (t ≡ end_of b k)
HasSide (line u v) s t = (s ≡ u) × (t ≡ v)

-- a corner of a core: an end of one of its sides
unfoldable pub HasCorner : Core → Spot → Type 0
HasCorner c s = (t : Spot) × (HasSide c s t ⊎ HasSide c t s)

-- a corner of c is at most r away from a point of a side of d
pub record CornerReaches (r : ℕ) (c d : Core) : Type 0 where
  pub corner : Spot
  pub from : Spot
  pub to : Spot
  pub at : PlanePoint
  pub is_corner : HasCorner c corner
  pub is_side : HasSide d from to
  pub on : OnLine from to at
  pub reached : IsReached r (grid_point corner.x corner.y) at

-- the law of distances: cores within reach of one another meet, or a corner of the one is within reach of a point of a
-- side of the other. Nothing else has to be tried.
abbrev pub CoreDistanceLaw : Type 0
CoreDistanceLaw =
    (r : ℕ) (c d : Core) → IsWhole c → IsWhole d
    → Touches r c d ↔ (AreMeeting c d ⊎ (CornerReaches r c d ⊎ CornerReaches r d c))

-- p and q are no farther apart than r and s: their squared distances, at a common scale
unfoldable pub IsNoFarther : PlanePoint → PlanePoint → PlanePoint → PlanePoint → Type 0
IsNoFarther p q r s =
    (scaled_dist_sq p q *ℤ pos ((minus r s).scale * (minus r s).scale))
    ≤ℤ (scaled_dist_sq r s *ℤ pos ((minus p q).scale * (minus p q).scale))

-- a corner of c and a point of a side of d are no farther apart than p and q
pub record CornerIsNoFarther (c d : Core) (p q : PlanePoint) : Type 0 where
  pub corner : Spot
  pub from : Spot
  pub to : Spot
  pub at : PlanePoint
  pub is_corner : HasCorner c corner
  pub is_side : HasSide d from to
  pub on : OnLine from to at
  pub no_farther : IsNoFarther (grid_point corner.x corner.y) at p q

-- where the least distance of two cores is: they meet, or, whichever two points of them one takes, some corner of the one
-- and some point of a side of the other are no farther apart
abbrev pub LeastLaw : Type 0
LeastLaw =
    (c d : Core) (p q : PlanePoint) → IsWhole c → IsWhole d → InCore c p → InCore d q
    → AreMeeting c d ⊎ (CornerIsNoFarther c d p q ⊎ CornerIsNoFarther d c p q)
