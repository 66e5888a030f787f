-- What the needs of a list say of an octagon: whether copper there keeps away from what stands on the board and from
-- the fills above.
use Rattle.std.specs.Prelude.{◌↔◌, ℕ, ◌≤◌, List, ◌≤ℤ◌}
use Rattle.plane.specs.Plane.{PlanePoint, Bounds, In, IsTight, AreNear}
use Rattle.classes.specs.Classes.{IsOneOf}
use Rattle.hulls.specs.Cells.{around}
use Rattle.board_language.specs.Board.{Board}
use Rattle.fill_rules.specs.Tasks.{zone_at}
use Rattle.fill_rules.specs.Needs.{Need}
use Rattle.fill_rules.specs.Fill.{IsClear, fill_of}

-- the octagon keeps each need of the list
unfoldable pub KeepsAll : List Need → Bounds → Type 0
KeepsAll needs o = (n : Need) → IsOneOf n needs → AreNear n.need o n.oct → ⊥

-- the need is some distance from a tight octagon
pub record IsRealNeed (n : Need) : Type 0 where
  pub need : 1 ≤ n.need
  pub tight : IsTight n.oct

-- all points of o lie in f
abbrev pub LiesIn : Bounds → Bounds → Type 0
LiesIn o f = (p : PlanePoint) → In o p → In f p

-- the octagon round the outline of the zone of the task of rank i, in which all its copper lies
abbrev pub frame_at : Board → ℕ → Bounds
frame_at b i = around (zone_at b i).outline

-- what lies in the frame of the task of rank i is clear exactly where it keeps the needs of the list
unfoldable pub IsClearBy : Board → ℕ → List Need → Type 0
IsClearBy b i bars = (o : Bounds) → LiesIn o (frame_at b i) → IsClear b (fill_of b) i o ↔ KeepsAll bars o

-- each bound of o is within that of f
pub record IsBoundedBy (o f : Bounds) : Type 0 where
  pub x0 : f.x0 ≤ℤ o.x0
  pub x1 : o.x1 ≤ℤ f.x1
  pub y0 : f.y0 ≤ℤ o.y0
  pub y1 : o.y1 ≤ℤ f.y1
  pub s0 : f.s0 ≤ℤ o.s0
  pub s1 : o.s1 ≤ℤ f.s1
  pub d0 : f.d0 ≤ℤ o.d0
  pub d1 : o.d1 ≤ℤ f.d1
