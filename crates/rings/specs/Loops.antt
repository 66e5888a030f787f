-- Loops of boundary edges: outer loops and holes.
use Rattle.std.specs.Prelude.{◌↔◌, ◌<◌, Bool, List, map, Contains, IsTrue}
use Rattle.std.specs.List.{All, AllZip}
use Rattle.grid_num.specs.declared.Point.{Point}
use Rattle.plane.specs.Covering.{Edge}
use Rattle.rings.specs.Turning.{direction, turn_to}
use Rattle.rings.specs.Walks.{Visit, visits, visit_corner, IsLess, AreContours}

-- the corners of a loop, and whether it is a hole
pub record Loop : Type 0 where
  pub corners : List Point
  pub hole : Bool

-- the walk comes to its least corner, and turning there from the way back to the way on one passes due left
pub record IsOpenLeft (w : List Edge) (v : Visit) : Type 0 where
  pub one : Contains (visits w) v
  pub least : All (λ u. IsLess (visit_corner u) (visit_corner v) → ⊥) (visits w)
  pub passes : turn_to v.comes 4 < turn_to v.comes (direction v.goes)

-- so there is copper to the left of the walk's least corner, and the walk goes around a hole. A walk that doesn't touch
-- itself goes counterclockwise on the screen then; where a walk touches itself that would say nothing.
unfoldable pub IsHole : List Edge → Type 0
IsHole w = (v : Visit) × IsOpenLeft w v

-- the loops of boundary edges: the contours of the orbits of the rule, each with whether it is a hole
pub record AreLoopsOf (es : List Edge) (loops : List Loop) : Type 0 where
  pub walks : List (List Edge)
  pub contours : AreContours es walks (map (λ l. l.corners) loops)
  pub holes : AllZip (λ w l. IsTrue l.hole ↔ IsHole w) walks loops
