-- What the calls make of a sheet's boundary.
use Rattle.std.specs.Prelude.{List, [], ◌∷◌, ◌++◌, map, AllPairs, if◌then◌else◌}
use Rattle.std.specs.List.Sorted.{IsPermutation}
use Rattle.grid_num.specs.declared.Point.{Point}
use Rattle.plane.specs.Covering.{Edge}
use Rattle.plane.specs.Edges.{both_ways}
use Rattle.strips.specs.declared.Strip.{Strip}
use Rattle.rings.specs.Walks.{IsListLess}
use Rattle.rings.specs.Loops.{Loop}
use Rattle.rings.specs.Rings.{holes_of}
use Rattle.rings.specs.Boundary.{AreBoundary}
use Rattle.rings.specs.Inner.Tracing.{drawings_of, slits_by}
use Rattle.sheet_trace.specs.declared.order.Drawn.{Drawn}

-- these are the boundary edges of the sheet, in some order
pub record AreEdgesOf (ss : List Strip) (fs : List Edge) : Type 0 where
  pub edges : List Edge
  pub boundary : AreBoundary ss edges
  pub order : IsPermutation edges fs

-- no two walks along the edges have the same contour, so that contours have one order
unfoldable pub AreUnlike : List Edge → Type 0
AreUnlike es = AllPairs IsListLess (map (λ d. d.corners) (drawings_of es))

-- the edges with both ways of the slits of the holes among the loops, in some order
pub record AreSlitted (fs : List Edge) (loops : List Loop) (gs : List Edge) : Type 0 where
  pub order : IsPermutation (fs ++ both_ways (slits_by fs (holes_of loops))) gs

-- the corners that are drawn
abbrev pub corners_in : Drawn → List Point
corners_in d = d.corners.items

-- the slit of a loop, there and back, if it is a hole
unfoldable pub slit_along : List Edge → Loop → List Edge
slit_along es l = if l.hole then both_ways (slits_by es (l.corners ∷ [])) else []
