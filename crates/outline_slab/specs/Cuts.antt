-- Sides as the code cuts them.
use Rattle.std.specs.Prelude.{ℕ, ◌<◌, ◌≤◌, ◌≤ℤ◌, ◌↔◌, ℤ, List, [], ◌∷◌, ◌++◌, length, map, slice_index_or, Any}
use Rattle.std.specs.List.{All}
use Rattle.plane.specs.Plane.{PlanePoint, Bounds, In}
use Rattle.plane.specs.Narrow.{IsNearZero}
use Rattle.octagon.specs.Bounded.{IsInReach}
use Rattle.plane.specs.Covering.{Edge}
use Rattle.plane.specs.Edges.{IsOctilinear}
use Rattle.slabs.specs.Slabs.{AreCuts, IsAmong, IsWay, IsFramed, IsPairAt}
use Rattle.outline_slab.specs.declared.side.Side.{Side}
use Rattle.outline_slab.specs.Inner.Side.{side_edge}

-- the sides as edges
abbrev pub all_edges : List Side → List Edge
all_edges ss = map (λ s. side_edge s) ss

-- both ends lie within 2 ^ 40
pub record IsEdgeInReach (e : Edge) : Type 0 where
  pub start : IsInReach e.start
  pub finish : IsInReach e.finish

-- level, upright or slanted by 45 degrees, within 2 ^ 40
pub record IsSoundEdge (e : Edge) : Type 0 where
  pub octilinear : IsOctilinear e
  pub reached : IsEdgeInReach e

-- from the top
abbrev pub AreRising : List ℤ → Type 0
AreRising rows = (i j : ℕ) (d : ℤ) → i ≤ j → j < length rows → slice_index_or rows i d ≤ℤ slice_index_or rows j d

-- both ends of the edge are in rows
abbrev pub IsInRows : List ℤ → Edge → Type 0
IsInRows rows e = IsAmong rows e.start.y × IsAmong rows e.finish.y

-- rows from the top, with those of all ends
pub record HasRows (rows : List ℤ) (es : List Edge) : Type 0 where
  pub rising : AreRising rows
  pub every : All (IsInRows rows) es

-- two cuts of a slab in their order
pub record AreTwo (l r : Edge) : Type 0 where
  pub left : IsWay l
  pub right : IsWay r
  pub framed : IsFramed l r
  pub left_reached : IsEdgeInReach l
  pub right_reached : IsEdgeInReach r

-- each pair is two such cuts
abbrev pub ArePaired : List Edge → Type 0
ArePaired cs = (j : ℕ) (l r : Edge) → IsPairAt cs j l r → AreTwo l r

-- x and y lie within half a metre of 0, in units of 2 nm
pub record IsWithinHalfMetre (b : Bounds) : Type 0 where
  pub x0 : IsNearZero 250000000 b.x0
  pub x1 : IsNearZero 250000000 b.x1
  pub y0 : IsNearZero 250000000 b.y0
  pub y1 : IsNearZero 250000000 b.y1

-- some octagon of the list has p
abbrev pub IsInSome : List Bounds → PlanePoint → Type 0
IsInSome octs p = Any (λ o. In o p) octs

-- the octagons have just the points that P holds of
abbrev pub HaveJust : List Bounds → (PlanePoint → Type 0) → Type 0
HaveJust octs P = (p : PlanePoint) → IsInSome octs p ↔ P p

-- where cs are the cuts of some edges, ds are those of these edges and of e
abbrev pub AddsCuts : List ℤ → Edge → (cs ds : List Edge) → Type 0
AddsCuts rows e cs ds = (es : List Edge) → AreCuts rows es cs → AreCuts rows (es ++ e ∷ []) ds

-- where cs are the cuts of some edges, so are ds
abbrev pub KeepsCuts : (cs ds : List Edge) → Type 0
KeepsCuts cs ds = (rows : List ℤ) (es : List Edge) → AreCuts rows es cs → AreCuts rows es ds
