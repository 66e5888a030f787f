-- The search for the least pair of crossing edges, along the rows that the edges take.
use Rattle.std.specs.Prelude.{◌≡◌, ℕ, ◌+◌, ◌<◌, ◌≤ℤ◌, ◌↔◌, List, length, Option, None, Some, slice_index_or}
use Rattle.std.specs.List.{All}
use Rattle.plane.specs.Plane.{PlanePoint, In}
use Rattle.grid_num.specs.declared.Point.{Point}
use Rattle.plane.specs.Covering.{IsOn}
use Rattle.outline_slab.specs.Rules.{AreCrossing, edge}
use Rattle.outline_slab.specs.Faults.{IsPairBefore}
use Rattle.outline_slab.specs.declared.rows.Row.{Row}

-- the edge of that index lies between the two rows, and the octagon has just its points
pub record IsRow (cs : List Point) (r : Row) : Type 0 where
  pub within : r.index < length cs
  pub top_start : r.top ≤ℤ (edge cs r.index).start.y
  pub top_finish : r.top ≤ℤ (edge cs r.index).finish.y
  pub bottom_start : (edge cs r.index).start.y ≤ℤ r.bottom
  pub bottom_finish : (edge cs r.index).finish.y ≤ℤ r.bottom
  pub hull : (p : PlanePoint) → In r.hull p ↔ IsOn (edge cs r.index) p

-- place u of the list is that of edge i
pub record IsRowAt (rows : List Row) (i u : ℕ) : Type 0 where
  pub place : u < length rows
  pub index : (d : Row) → (slice_index_or rows u d).index ≡ i

-- all edges of a chain with their rows, from the top
pub record AreRowsOfEdges (cs : List Point) (rows : List Row) : Type 0 where
  pub each : All (IsRow cs) rows
  pub every : (i : ℕ) → i < length cs → (u : ℕ) × IsRowAt rows i u
  pub sorted : (u : ℕ) (d : Row) → u + 1 < length rows → (slice_index_or rows u d).top ≤ℤ (slice_index_or rows (u + 1) d).top

-- the pair comes before the best one so far
abbrev pub IsBeforeBest : ℕ → ℕ → Option (ℕ × ℕ) → Type 0
IsBeforeBest i j None = Unit {0}
IsBeforeBest i j (Some p) = IsPairBefore i j p.0 p.1

-- the best pair so far, if there is one, is a pair of crossing edges
abbrev pub IsFound : List Point → Option (ℕ × ℕ) → Type 0
IsFound cs None = Unit {0}
IsFound cs (Some p) = (p.0 < p.1) × (p.1 < length cs) × AreCrossing cs p.0 p.1

-- the pair is no reason for a better one
abbrev pub Misses : List Point → Option (ℕ × ℕ) → ℕ → ℕ → Type 0
Misses cs best i j = i < j → j < length cs → IsBeforeBest i j best → AreCrossing cs i j → ⊥

-- what is found stays right, and what was no reason stays none
pub record IsBetterFind (cs : List Point) (best better : Option (ℕ × ℕ)) : Type 0 where
  pub found : IsFound cs better
  pub misses : (i j : ℕ) → Misses cs best i j → Misses cs better i j

-- row i is that of edge i
pub record AreEdgeRows (cs : List Point) (rows : List Row) : Type 0 where
  pub each : All (IsRow cs) rows
  pub count : length rows ≡ length cs
  pub index : (u : ℕ) (d : Row) → u < length rows → (slice_index_or rows u d).index ≡ u

-- the edge at place u is, with none of the edges from there up to place n, a reason for a better pair
abbrev pub MissesLater : List Point → List Row → Option (ℕ × ℕ) → ℕ → ℕ → Type 0
MissesLater cs rows best u n =
    (v : ℕ) (d : Row) → u < v → v < n
    → Misses cs best (slice_index_or rows u d).index (slice_index_or rows v d).index × Misses cs best (slice_index_or rows v d).index (slice_index_or rows u d).index
