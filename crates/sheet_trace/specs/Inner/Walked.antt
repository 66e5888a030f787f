-- Walks along edges that are listed with flags: which of them are used.
use Rattle.std.specs.Prelude.{◌≡◌, ℕ, ◌-◌, ◌<◌, pos, Bool, true, false, ◌||◌, List, [], ◌∷◌, ◌++◌, length, drop, map, slice_index_or}
pub use Rattle.plane.specs.Covering.{no_edge}
use Rattle.plane.specs.Covering.{Edge}
use Rattle.rings.specs.Loops.{Loop}
use Rattle.rings.specs.Inner.Tracing.{is_one_of, loop_of, follow, walk_of, walks_of}
use Rattle.sheet_trace.specs.declared.edge.BoundaryEdge.{BoundaryEdge}
use Rattle.sheet_trace.specs.Edges.{edges_in}
use Rattle.sheet_trace.specs.Inner.Order.{drawing_of}

-- the edge in the place k
unfoldable pub edge_at : List BoundaryEdge → ℕ → Edge
edge_at es k = slice_index_or (edges_in es) k no_edge

-- the edges whose flags aren't set
unfoldable pub unused : List Bool → List Edge → List Edge
unused [] es = []
unused (b ∷ bs) [] = []
unused (true ∷ bs) (e ∷ es) = unused bs es
unused (false ∷ bs) (e ∷ es) = e ∷ unused bs es

-- the flags, with those of the edges of a walk set
unfoldable pub marked : List Edge → List Edge → List Bool → List Bool
marked w [] bs = bs
marked w (e ∷ es) [] = []
marked w (e ∷ es) (b ∷ bs) = (b || is_one_of w e) ∷ marked w es bs

-- the loop that a walk draws
abbrev pub loop_along : List Edge → Loop
loop_along w = loop_of (drawing_of w)

-- the loops that are drawn, and after them those of the walks along the unused edges from the place k on
unfoldable pub drawn_from : List Edge → ℕ → List Bool → List Loop → List Loop
drawn_from es k bs drawn = drawn ++ map loop_along (walks_of (length es - length drawn) es (unused (drop k bs) (drop k es)))

-- a walk from the edge in the place first has gone on i times and comes to the edge in the place
pub record IsWalking (es : List BoundaryEdge) (before : List Bool) (first i place : ℕ) (walk : List Edge) (used : List Bool) : Type 0 where
  pub whole : walk ++ follow (length es - i) (edges_in es) (edge_at es first) (edge_at es place) ≡ walk_of (edges_in es) (edge_at es first)
  pub flags : used ≡ marked walk (edges_in es) before
  pub within : place < length es
