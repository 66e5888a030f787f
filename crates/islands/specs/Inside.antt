-- What lies inside the board's edge.
use Rattle.std.specs.Prelude.{◌≡◌, ◌⊎◌, pos, ◌*ℤ◌, List, [], map}
use Rattle.plane.specs.Plane.{grid_point}
use Rattle.plane.specs.Covering.{crossings, IsOdd}
use Rattle.grid_num.specs.declared.Point.{Point}
use Rattle.cores.specs.Room.{IsInRoom}
use Rattle.copper_shape.specs.declared.edge.Edge.{Edge}

-- a board edge as it is crossed: the segment, or an arc's chord, in nanometres
abbrev pub crossed : Edge → Rattle.plane.specs.Covering.Edge
crossed e = record { start = e.from; finish = e.to }

-- the grid point is inside the board: there is no edge, or an odd number of edges cross its row strictly to its left, of
-- each the end of lesser y counted in and the other not
unfoldable pub IsWithinEdges : List Edge → Point → Type 0
IsWithinEdges es c = (es ≡ []) ⊎ IsOdd (crossings (map crossed es) (grid_point (pos 2 *ℤ c.x) (pos 2 *ℤ c.y)))

-- both ends lie within 500 mm of 0
pub record IsEdgeInRoom (e : Edge) : Type 0 where
  pub from : IsInRoom 500000000 e.from
  pub to : IsInRoom 500000000 e.to
