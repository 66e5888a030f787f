-- Boards of a few edges, and their loops and rings.
use Rattle.std.specs.Prelude.{ℤ, pos, true, false, List, [], ◌∷◌, ◌++◌}
use Rattle.grid_num.specs.declared.Point.{Point}
use Rattle.plane.specs.Covering.{Edge, edges_of}
use Rattle.rings.specs.Loops.{Loop, AreLoopsOf}
use Rattle.rings.specs.Rings.{AreRingsOf}

-- a corner
abbrev pub corner_at : ℤ → ℤ → Point
corner_at x y = record { x = x; y = y }

-- a loop with copper inside
abbrev pub outer : List Point → Loop
outer cs = record { corners = cs; hole = false }

-- a loop with copper outside
abbrev pub hole : List Point → Loop
hole cs = record { corners = cs; hole = true }

-- a zone of 10 mm by 10 mm with a foreign via in its middle, in nanometres; its upper edge is cut at 5 mm
abbrev pub zone_corners : List Point
zone_corners =
    corner_at (pos 73222) (pos 0) ∷ corner_at (pos 9926778) (pos 0) ∷ corner_at (pos 10000000) (pos 73222) ∷ corner_at (pos 10000000) (pos 9926778) ∷ corner_at (pos 9926778) (pos 10000000)
    ∷ corner_at (pos 73222) (pos 10000000) ∷ corner_at (pos 0) (pos 9926778) ∷ corner_at (pos 0) (pos 73222) ∷ []

-- the gap round the via
abbrev pub via_corners : List Point
via_corners =
    corner_at (pos 4792890) (pos 4500000) ∷ corner_at (pos 4500000) (pos 4792890) ∷ corner_at (pos 4500000) (pos 5207110) ∷ corner_at (pos 4792890) (pos 5500000)
    ∷ corner_at (pos 5207110) (pos 5500000) ∷ corner_at (pos 5500000) (pos 5207110) ∷ corner_at (pos 5500000) (pos 4792890) ∷ corner_at (pos 5207110) (pos 4500000) ∷ []

-- the zone's corners and the place at which its upper edge is cut
abbrev pub cut_corners : List Point
cut_corners =
    corner_at (pos 73222) (pos 0) ∷ corner_at (pos 5000000) (pos 0) ∷ corner_at (pos 9926778) (pos 0) ∷ corner_at (pos 10000000) (pos 73222) ∷ corner_at (pos 10000000) (pos 9926778)
    ∷ corner_at (pos 9926778) (pos 10000000) ∷ corner_at (pos 73222) (pos 10000000) ∷ corner_at (pos 0) (pos 9926778) ∷ corner_at (pos 0) (pos 73222) ∷ []

-- all boundary edges
abbrev pub via_edges : List Edge
via_edges = edges_of cut_corners ++ edges_of via_corners

-- an outer loop and a hole; one ring, with a slit from the hole's upper left corner to the left edge and back
abbrev pub via_loops : List Loop
via_loops = outer zone_corners ∷ hole via_corners ∷ []

-- that ring
abbrev pub via_ring : List Point
via_ring =
    corner_at (pos 73222) (pos 0) ∷ corner_at (pos 9926778) (pos 0) ∷ corner_at (pos 10000000) (pos 73222) ∷ corner_at (pos 10000000) (pos 9926778) ∷ corner_at (pos 9926778) (pos 10000000)
    ∷ corner_at (pos 73222) (pos 10000000) ∷ corner_at (pos 0) (pos 9926778) ∷ corner_at (pos 0) (pos 4500000) ∷ corner_at (pos 4792890) (pos 4500000) ∷ corner_at (pos 4500000) (pos 4792890)
    ∷ corner_at (pos 4500000) (pos 5207110) ∷ corner_at (pos 4792890) (pos 5500000) ∷ corner_at (pos 5207110) (pos 5500000) ∷ corner_at (pos 5500000) (pos 5207110)
    ∷ corner_at (pos 5500000) (pos 4792890) ∷ corner_at (pos 5207110) (pos 4500000) ∷ corner_at (pos 0) (pos 4500000) ∷ corner_at (pos 0) (pos 73222) ∷ []

-- two squares that meet in one point stay two loops and two rings
--    ___
--   |   |
--   |___|___
--       |   |
--       |___|
abbrev pub first_square : List Point
first_square = corner_at (pos 0) (pos 0) ∷ corner_at (pos 2) (pos 0) ∷ corner_at (pos 2) (pos 2) ∷ corner_at (pos 0) (pos 2) ∷ []

-- the lower one
abbrev pub second_square : List Point
second_square = corner_at (pos 2) (pos 2) ∷ corner_at (pos 4) (pos 2) ∷ corner_at (pos 4) (pos 4) ∷ corner_at (pos 2) (pos 4) ∷ []

-- the edges of both
abbrev pub square_edges : List Edge
square_edges = edges_of first_square ++ edges_of second_square

-- two holes side by side: the right one's slit ends in a corner of the left one, and one ring goes along all three
--    ___________
--   |  _     _  |
--   |-|_|---|_| |
--   |___________|
abbrev pub frame_corners : List Point
frame_corners = corner_at (pos 0) (pos 0) ∷ corner_at (pos 10) (pos 0) ∷ corner_at (pos 10) (pos 6) ∷ corner_at (pos 0) (pos 6) ∷ []

-- the left hole
abbrev pub left_hole : List Point
left_hole = corner_at (pos 2) (pos 2) ∷ corner_at (pos 2) (pos 4) ∷ corner_at (pos 4) (pos 4) ∷ corner_at (pos 4) (pos 2) ∷ []

-- the right one
abbrev pub right_hole : List Point
right_hole = corner_at (pos 6) (pos 2) ∷ corner_at (pos 6) (pos 4) ∷ corner_at (pos 8) (pos 4) ∷ corner_at (pos 8) (pos 2) ∷ []

-- the edges of all three
abbrev pub pair_edges : List Edge
pair_edges = edges_of frame_corners ++ (edges_of left_hole ++ edges_of right_hole)

-- three loops
abbrev pub pair_loops : List Loop
pair_loops = outer frame_corners ∷ hole left_hole ∷ hole right_hole ∷ []

-- and one ring
abbrev pub pair_ring : List Point
pair_ring =
    corner_at (pos 0) (pos 0) ∷ corner_at (pos 10) (pos 0) ∷ corner_at (pos 10) (pos 6) ∷ corner_at (pos 0) (pos 6) ∷ corner_at (pos 0) (pos 2) ∷ corner_at (pos 2) (pos 2) ∷ corner_at (pos 2) (pos 4)
    ∷ corner_at (pos 4) (pos 4) ∷ corner_at (pos 4) (pos 2) ∷ corner_at (pos 6) (pos 2) ∷ corner_at (pos 6) (pos 4) ∷ corner_at (pos 8) (pos 4) ∷ corner_at (pos 8) (pos 2) ∷ corner_at (pos 0) (pos 2) ∷ []

-- a bay that touches the left edge in one point alone: one loop, which touches itself and is no hole
--    ____
--   |    |
--   |/\  |
--   |\/  |
--   |____|
abbrev pub bay_corners : List Point
bay_corners =
    corner_at (pos 0) (pos 0) ∷ corner_at (pos 6) (pos 0) ∷ corner_at (pos 6) (pos 6) ∷ corner_at (pos 0) (pos 6) ∷ corner_at (pos 0) (pos 3) ∷ corner_at (pos 1) (pos 4) ∷ corner_at (pos 2) (pos 3)
    ∷ corner_at (pos 1) (pos 2) ∷ corner_at (pos 0) (pos 3) ∷ []

-- its edges
abbrev pub bay_edges : List Edge
bay_edges = edges_of bay_corners

-- what is right of them
pub record ExamplesLaw : Type 0 where
  pub via_loops : AreLoopsOf via_edges via_loops
  pub via_rings : AreRingsOf via_edges (via_ring ∷ [])
  pub square_loops : AreLoopsOf square_edges (outer first_square ∷ outer second_square ∷ [])
  pub square_rings : AreRingsOf square_edges (first_square ∷ second_square ∷ [])
  pub pair_loops : AreLoopsOf pair_edges pair_loops
  pub pair_rings : AreRingsOf pair_edges (pair_ring ∷ [])
  pub bay_loops : AreLoopsOf bay_edges (outer bay_corners ∷ [])
  pub bay_rings : AreRingsOf bay_edges (bay_corners ∷ [])
