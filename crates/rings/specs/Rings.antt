-- Rings: what is written of a fill. A ring goes along an outer loop, and by slits along the holes in it.
use Rattle.std.specs.Prelude.{ℕ, List, [], ◌++◌, map}
use Rattle.std.specs.List.{All, AllZip, filter}
use Rattle.grid_num.specs.declared.Point.{Point}
use Rattle.grid_num.specs.Length.{IsInRange}
use Rattle.plane.specs.Covering.{Edge}
use Rattle.plane.specs.Edges.{both_ways}
use Rattle.rings.specs.Walks.{AreContours}
use Rattle.rings.specs.Loops.{Loop, AreLoopsOf}
use Rattle.rings.specs.Slits.{IsSlit, cut_by}

-- the corners of the loops that are holes
unfoldable pub holes_of : List Loop → List (List Point)
holes_of loops = map (λ l. l.corners) (filter (λ l. l.hole) loops)

-- the boundary edges, cut where slits end, with each slit there and back
unfoldable pub with_slits : List Edge → List Edge → List Edge
with_slits es slits = cut_by slits es ++ both_ways slits

-- the rings of boundary edges: the contours of the orbits of the same rule over these, where each hole has its slit
pub record AreRingsOf (es : List Edge) (rings : List (List Point)) : Type 0 where
  pub loops : List Loop
  pub are : AreLoopsOf es loops
  pub slits : List Edge
  pub each : AllZip (IsSlit es) (holes_of loops) slits
  pub walks : List (List Edge)
  pub contours : AreContours (with_slits es slits) walks rings

-- the ring's corners lie within 500 mm
abbrev pub IsRingInRange : List Point → Type 0
IsRingInRange corners = All (λ corner. IsInRange corner.x × IsInRange corner.y) corners

-- the outlines of a sheet: its rings, and twice its area in square nanometres
pub record Traced : Type 0 where
  pub rings : List (List Point)
  pub area2 : ℕ

-- what stands past the last fill: no rings
abbrev pub not_traced : Traced
not_traced = record { rings = []; area2 = 0 }
