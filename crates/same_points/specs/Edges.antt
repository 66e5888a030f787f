-- Edges that are cut at a further row.
use Rattle.std.specs.Prelude.{Bool, ℤ, List, [], ◌∷◌, ◌++◌, if◌then◌else◌}
use Rattle.grid_num.specs.declared.Point.{Point}
use Rattle.plane.specs.Covering.{Edge}
use Rattle.rings.specs.Slits.{is_strictly_between, first_part, second_part}
use Rattle.same_points.specs.Cuts.{side_at}

-- the row is strictly between the ends of the edge
abbrev pub is_crossed : ℤ → Edge → Bool
is_crossed r e = is_strictly_between e.start.y r e.finish.y

-- where the edge is in the row
unfoldable pub crossing_place : ℤ → Edge → Point
crossing_place r e = record { x = side_at e.start.y e.finish.y e.start.x e.finish.x r; y = r }

-- the part with which one begins to go along the edge: the edge itself where the row isn't crossed
unfoldable pub begin_of : ℤ → Edge → Edge
begin_of r e = if is_crossed r e then first_part e (crossing_place r e) else e

-- and the part with which one ends
unfoldable pub final_of : ℤ → Edge → Edge
final_of r e = if is_crossed r e then second_part e (crossing_place r e) else e

-- the one part or the two parts of the edge
unfoldable pub parts_of : ℤ → Edge → List Edge
parts_of r e = if is_crossed r e then begin_of r e ∷ final_of r e ∷ [] else e ∷ []

-- the edges, cut at the row
unfoldable pub parted : ℤ → List Edge → List Edge
parted r [] = []
parted r (e ∷ es) = parts_of r e ++ parted r es
