-- The least corner of a walk, whether it turns past due left there, and how far a slit goes, as the code finds them.
use Rattle.std.specs.Prelude.{ℕ, ◌+◌, ◌-◌, ◌%◌, ℤ, Bool, false, ◌&&◌, nat_lt, List, [], ◌∷◌, if◌then◌else◌}
use Rattle.std.specs.Ordering.{int_eq}
use Rattle.grid_num.specs.declared.Point.{Point}
use Rattle.plane.specs.Covering.{Edge}
use Rattle.rings.specs.Turning.{direction, turn_to}
use Rattle.rings.specs.Walks.{Visit, visit_corner}
use Rattle.rings.specs.Inner.Tracing.{is_same_point, slit_reach}
use Rattle.sheet_trace.specs.declared.edge.BoundaryEdge.{BoundaryEdge}
use Rattle.sheet_trace.specs.Next.{is_before, heading}

-- the lesser of two corners
unfoldable pub lesser_corner : Point → Point → Point
lesser_corner a b = if is_before b a then b else a

-- the least of the corner and those at which the edges begin
unfoldable pub least_start : Point → List BoundaryEdge → Point
least_start c [] = c
least_start c (e ∷ es) = least_start (lesser_corner c e.start) es

-- how far one turns from the way back along the edge until one looks due left
unfoldable pub turn_left : BoundaryEdge → ℕ
turn_left e = (15 - heading e) % 8 + 1

-- the visit is to that corner, and one passes due left there
unfoldable pub opens_at : Point → Visit → Bool
opens_at c v = is_same_point (visit_corner v) c && nat_lt (turn_to v.comes 4) (turn_to v.comes (direction v.goes))

-- the x to which the corner h reaches, where the last of the edges before it begins at s
unfoldable pub x_by : Point → Point → ℤ
x_by h s = if int_eq s.y h.y then s.x else h.x

-- the greatest x on the left of the corner at which an edge begins in its row, or else the corner's own
unfoldable pub reached : List Edge → Point → ℤ
reached es h = (slit_reach h (record { some = false; x = h.x }) es).x
