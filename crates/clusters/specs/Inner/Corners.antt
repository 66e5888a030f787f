-- The least corner of some octagons, by y and then by x.
use Rattle.std.specs.Prelude.{◌≡◌, ◌⊎◌, ◌<ℤ◌, ◌≤ℤ◌, List, [], flat_map, Option, Some, None}
use Rattle.plane.specs.Plane.{Bounds}
use Rattle.plane.specs.Corners.{corners_of}
use Rattle.grid_num.specs.declared.Point.{Point}
use Rattle.classes.specs.Classes.{IsOneOf}

-- the one doesn't come behind the other
abbrev pub IsNotBehind : Point → Point → Type 0
IsNotBehind p q = (p.y <ℤ q.y) ⊎ ((p.y ≡ q.y) × (p.x ≤ℤ q.x))

-- it is one of the points, and comes behind none of them
pub record IsLeastPoint (m : Point) (ps : List Point) : Type 0 where
  pub one : IsOneOf m ps
  pub least : (q : Point) → IsOneOf q ps → IsNotBehind m q

-- the least corner of the octagons; none where there are none
unfoldable pub IsLeastCorner : List Bounds → Option Point → Type 0
IsLeastCorner os None = os ≡ []
IsLeastCorner os (Some m) = IsLeastPoint m (flat_map corners_of os)

-- the lesser of the two; the second where there is no first
unfoldable pub IsLesserOf : Option Point → Point → Point → Type 0
IsLesserOf None q m = m ≡ q
IsLesserOf (Some p) q m = IsNotBehind m p × IsNotBehind m q × ((m ≡ p) ⊎ (m ≡ q))
