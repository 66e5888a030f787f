-- The corners of a walk as the code goes through them, and a list of them begun at another place.
use Rattle.std.specs.Prelude.{ℕ, ◌+◌, ◌-◌, ◌++◌, List, [], ◌∷◌, map, nat_lt, if◌then◌else◌, take, drop}
use Rattle.std.specs.List.{filter}
use Rattle.grid_num.specs.declared.Point.{Point}
use Rattle.plane.specs.Covering.{Edge}
use Rattle.rings.specs.Walks.{Visit, visits_after, visit_corner, is_bend}
use Rattle.sheet_trace.specs.declared.edge.BoundaryEdge.{BoundaryEdge}
use Rattle.sheet_trace.specs.Edges.{edge_of}

-- the visit to the corner at which one edge ends and another begins
abbrev pub visit_of : BoundaryEdge → BoundaryEdge → Visit
visit_of e f = record { comes = edge_of e; goes = edge_of f }

-- the corner of a visit, if the direction changes there
unfoldable pub bend_at : Visit → List Point
bend_at v = if is_bend v then visit_corner v ∷ [] else []

-- the corners at which the direction changes, where one comes to the first edge by e
unfoldable pub bends_after : Edge → List Edge → List Point
bends_after e es = map visit_corner (filter is_bend (visits_after e es))

-- where one is after some steps around a list of n, begun at the place k
abbrev pub place_around : ℕ → ℕ → ℕ → ℕ
place_around n k step = if nat_lt step (n - k) then k + step else step - (n - k)

-- the list, begun at the place k
abbrev pub begun_at : List Point → ℕ → List Point
begun_at cs k = drop k cs ++ take k cs
