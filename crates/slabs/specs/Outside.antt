-- What edges leave of a frame round them.
use Rattle.std.specs.Prelude.{◌≡◌, ◌⊎◌, ℤ, ◌≤ℤ◌, ◌<ℤ◌, ◌↔◌, List, ◌++◌, Any}
use Rattle.std.specs.List.{All}
use Rattle.plane.specs.Plane.{PlanePoint, Bounds, In, StrictlyWithin, box_of}
use Rattle.grid_num.specs.declared.Point.{Point}
use Rattle.plane.specs.Covering.{Edge, IsOn, Covers, edges_of}
use Rattle.plane.specs.Edges.{AreOctilinear}
use Rattle.plane.specs.Corners.{box_corners}
use Rattle.slabs.specs.Slabs.{AreClosed, IsAmong}

-- p is in the frame, and not covered or on an edge: where the edges are an outline, that is the frame's part outside
-- the outline together with its limits
unfoldable pub IsOutside : List Edge → Bounds → PlanePoint → Type 0
IsOutside es b p = In b p × ((Covers es p → ⊥) ⊎ Any (λ e. IsOn e p) es)

-- the frame is a rectangle, and the corners are inside it, off its rim
pub record IsFrame (cs : List Point) (b : Bounds) : Type 0 where
  pub box : b ≡ box_of b.x0 b.x1 b.y0 b.y1
  pub around : All (λ v. StrictlyWithin b v.x v.y) cs

-- b reaches at least as far as a to each of the four sides
pub record IsAtMost (a b : Bounds) : Type 0 where
  pub left : b.x0 ≤ℤ a.x0
  pub right : a.x1 ≤ℤ b.x1
  pub top : b.y0 ≤ℤ a.y0
  pub bottom : a.y1 ≤ℤ b.y1

-- a chain and the rectangle round it, counted together, cover what the chain leaves of the rectangle
abbrev pub OutsideLaw : Type 0
OutsideLaw =
    (x0 x1 y0 y1 : ℤ) (cs : List Point) (p : PlanePoint) → x0 <ℤ x1 → y0 <ℤ y1 → AreOctilinear (edges_of cs) → All (λ v. StrictlyWithin (box_of x0 x1 y0 y1) v.x v.y) cs
    → Covers (edges_of cs ++ edges_of (box_corners x0 x1 y0 y1)) p ↔ IsOutside (edges_of cs) (box_of x0 x1 y0 y1) p

-- and both are closed together
abbrev pub FramedLaw : Type 0
FramedLaw =
    (rows : List ℤ) (x0 x1 y0 y1 : ℤ) (cs : List Point) → x0 <ℤ x1 → y0 <ℤ y1 → IsAmong rows y0 → IsAmong rows y1
    → All (λ v. StrictlyWithin (box_of x0 x1 y0 y1) v.x v.y) cs → AreClosed rows (edges_of cs)
    → AreClosed rows (edges_of cs ++ edges_of (box_corners x0 x1 y0 y1))
