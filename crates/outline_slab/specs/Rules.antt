-- When a closed chain of corners is an outline. Edge i runs from corner i to the next one, the last edge to the first
-- corner.
use Rattle.std.specs.Prelude.{◌≡◌, ℕ, suc, ◌<◌, ◌≤◌, ◌⊎◌, ℤ, ◌+ℤ◌, List, length, slice_index_or}
use Rattle.std.specs.List.{All}
use Rattle.plane.specs.Plane.{PlanePoint, IsSame, grid_point}
use Rattle.plane.specs.Narrow.{IsNearZero}
use Rattle.grid_num.specs.declared.Point.{Point}
use Rattle.plane.specs.Covering.{Edge, IsOn, edges_of}
pub use Rattle.plane.specs.Covering.{no_corner, no_edge}
use Rattle.plane.specs.Edges.{IsOctilinear}

-- both coordinates are at most m away from 0
pub record IsPointWithin (m : ℕ) (p : Point) : Type 0 where
  pub x : IsNearZero m p.x
  pub y : IsNearZero m p.y

-- the point lies within half a metre of 0, in nanometres
abbrev pub IsInSpan : Point → Type 0
IsInSpan p = IsPointWithin 500000000 p

-- the number is even
abbrev pub IsEven : ℤ → Type 0
IsEven z = (h : ℤ) × (z ≡ h +ℤ h)

-- the corner, given in nanometres, is at whole units of 2 nm
pub record IsOnGrid (c : Point) : Type 0 where
  pub x : IsEven c.x
  pub y : IsEven c.y

-- the edge goes somewhere, and level, upright or slanted by 45 degrees
pub record IsSide (e : Edge) : Type 0 where
  pub goes : e.start ≡ e.finish → ⊥
  pub octilinear : IsOctilinear e

-- edge i of a chain
abbrev pub edge : List Point → ℕ → Edge
edge cs i = slice_index_or (edges_of cs) i no_edge

-- of n edges around a chain, edge j goes on where edge i ends
abbrev pub IsNextAround : ℕ → ℕ → ℕ → Type 0
IsNextAround n i j = (j ≡ suc i) ⊎ ((suc i ≡ n) × (j ≡ 0))

-- p is the corner at which edge j goes on from edge i: the common end of the two neighbours
pub record IsJoint (cs : List Point) (i j : ℕ) (p : PlanePoint) : Type 0 where
  pub next : IsNextAround (length cs) i j
  pub end : IsSame (grid_point (edge cs j).start.x (edge cs j).start.y) p

-- edges i and j have a point of the plane in common, other than the common end of neighbours
pub record AreCrossing (cs : List Point) (i j : ℕ) : Type 0 where
  pub at : PlanePoint
  pub first : IsOn (edge cs i) at
  pub second : IsOn (edge cs j) at
  pub not_end : IsJoint cs i j at → ⊥
  pub not_start : IsJoint cs j i at → ⊥

-- no two edges do
abbrev pub NoneCrossing : List Point → Type 0
NoneCrossing cs = (i j : ℕ) → i < j → j < length cs → AreCrossing cs i j → ⊥

-- a closed chain of at least three corners, with edges in the eight directions that have no point in common but the
-- corner between neighbours
pub record IsSimple (cs : List Point) : Type 0 where
  pub three : 3 ≤ length cs
  pub sides : All IsSide (edges_of cs)
  pub apart : NoneCrossing cs

-- the corners, in nanometres, break no rule of outlines
pub record IsOutline (cs : List Point) : Type 0 where
  pub grid : All IsOnGrid cs
  pub simple : IsSimple cs

-- what is kept of an outline, in units of 2 nm
pub record IsKeptOutline (cs : List Point) : Type 0 where
  pub simple : IsSimple cs
  pub within : All (IsPointWithin 250000000) cs
