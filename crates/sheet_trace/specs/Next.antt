-- Edges listed by where they begin, and the next edge among them.
use Rattle.std.specs.Prelude.{◌≡◌, ◌⊎◌, ℕ, ◌+◌, ◌-◌, ◌%◌, ◌≤◌, ◌<◌, Bool, ◌&&◌, ◌||◌, int_lt, if◌then◌else◌, List, length, ◌<ℤ◌, ◌≤ℤ◌, slice_index_or}
use Rattle.std.specs.Ordering.{int_eq}
use Rattle.grid_num.specs.declared.Point.{Point}
use Rattle.plane.specs.Covering.{Edge}
use Rattle.rings.specs.Turning.{IsNextEdge}
use Rattle.sheet_trace.specs.declared.edge.BoundaryEdge.{BoundaryEdge}
use Rattle.sheet_trace.specs.Edges.{edge_of, edges_in}

-- by the starts: from the top, and in each row from the left
abbrev pub AreByStart : List BoundaryEdge → Type 0
AreByStart es = (k : ℕ) (d : BoundaryEdge) → k + 1 < length es → ((slice_index_or es k d).start.y <ℤ (slice_index_or es (k + 1) d).start.y)
    ⊎ (((slice_index_or es k d).start.y ≡ (slice_index_or es (k + 1) d).start.y) × ((slice_index_or es k d).start.x ≤ℤ (slice_index_or es (k + 1) d).start.x))

-- one of the edges is the next one after e
abbrev pub HasNext : List BoundaryEdge → BoundaryEdge → Type 0
HasNext es e = (f : Edge) × IsNextEdge (edges_in es) (edge_of e) f

-- the edge in the place k is the next one after e
unfoldable pub IsNextAt : List BoundaryEdge → BoundaryEdge → ℕ → Type 0
IsNextAt es e k = (d : BoundaryEdge) → IsNextEdge (edges_in es) (edge_of e) (edge_of (slice_index_or es k d))

-- the code's test of the order of corners, its directions and its turns: the same as those of the rule
unfoldable pub is_before : Point → Point → Bool
is_before a b = int_lt a.y b.y || (int_eq a.y b.y && int_lt a.x b.x)

-- the direction of a boundary edge
unfoldable pub heading : BoundaryEdge → ℕ
heading e =
    if int_lt e.start.x e.finish.x
    then (if int_lt e.finish.y e.start.y then 1 else (if int_lt e.start.y e.finish.y then 7 else 0))
    else
    (if int_lt e.finish.x e.start.x
    then (if int_lt e.finish.y e.start.y then 3 else (if int_lt e.start.y e.finish.y then 5 else 4))
    else (if int_lt e.finish.y e.start.y then 2 else 6))

-- the turn from one to another
unfoldable pub turn_between : BoundaryEdge → BoundaryEdge → ℕ
turn_between e f = (heading f + 11 - heading e) % 8 + 1

-- of the edges before the place n that begin where e ends, the one in the place k has the least turn
pub record IsBestBefore (es : List BoundaryEdge) (e : BoundaryEdge) (n k : ℕ) : Type 0 where
  pub before : k < n
  pub joins : (d : BoundaryEdge) → (slice_index_or es k d).start ≡ e.finish
  pub least : (i : ℕ) (d : BoundaryEdge) → i < n → (slice_index_or es i d).start ≡ e.finish
      → turn_between e (slice_index_or es k d) ≤ turn_between e (slice_index_or es i d)
