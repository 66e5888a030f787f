-- Boundary edges as the code has them.
use Rattle.std.specs.Prelude.{◌≡◌, ◌⊎◌, ℕ, ◌+◌, ◌<◌, List, [], ◌∷◌, length, ◌<ℤ◌, ◌≤ℤ◌, slice_index_or}
use Rattle.grid_num.specs.declared.Point.{Point}
use Rattle.plane.specs.Covering.{Edge}
use Rattle.strips.specs.declared.Strip.{Strip}
use Rattle.sheet_trace.specs.declared.edge.BoundaryEdge.{BoundaryEdge}

-- a boundary edge as an edge
abbrev pub edge_of : BoundaryEdge → Edge
edge_of e = record { start = e.start; finish = e.finish }

-- all of them
unfoldable pub edges_in : List BoundaryEdge → List Edge
edges_in [] = []
edges_in (e ∷ es) = edge_of e ∷ edges_in es

-- the sides of a strip: the left one up, the right one down
abbrev pub left_side : Strip → BoundaryEdge
left_side s = record { start = record { x = s.left_end; y = s.bottom }; finish = record { x = s.left; y = s.top } }

-- the right side of a strip
abbrev pub right_side : Strip → BoundaryEdge
right_side s = record { start = record { x = s.right; y = s.top }; finish = record { x = s.right_end; y = s.bottom } }

-- both sides of all strips
unfoldable pub strip_sides : List Strip → List BoundaryEdge
strip_sides [] = []
strip_sides (s ∷ ss) = left_side s ∷ right_side s ∷ strip_sides ss

-- where the edges begin and end
unfoldable pub edge_ends : List BoundaryEdge → List Point
edge_ends [] = []
edge_ends (e ∷ es) = e.start ∷ e.finish ∷ edge_ends es

-- points from the top, and in each row from the left
abbrev pub ArePointsFromTop : List Point → Type 0
ArePointsFromTop cs = (k : ℕ) (d : Point) → k + 1 < length cs → ((slice_index_or cs k d).y <ℤ (slice_index_or cs (k + 1) d).y)
    ⊎ (((slice_index_or cs k d).y ≡ (slice_index_or cs (k + 1) d).y) × ((slice_index_or cs k d).x ≤ℤ (slice_index_or cs (k + 1) d).x))
