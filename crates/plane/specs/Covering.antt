-- What closed chains of corners cover, by the even-odd rule, for points of every scale: go from the point straight to
-- the left and count the edges that are crossed; the point is covered where their number is odd, or where it lies on
-- an edge. A fill's ring of corners is read in this way.
use Rattle.std.specs.Prelude.{◌≡◌, ℕ, ◌%◌, ◌+◌, ◌⊎◌, ◌&&◌, cond, List, [], ◌∷◌, ◌++◌, ℤ, pos, ◌-ℤ◌, ◌*ℤ◌, ◌≤ℤ◌, int_lt, int_le, sum_by, Any}
use Rattle.plane.specs.Plane.{PlanePoint}
use Rattle.grid_num.specs.declared.Point.{Point}

-- the straight way from one corner to the next; its direction tells nothing about what is covered
pub record Edge : Type 0 where
  pub start : Point
  pub finish : Point

-- what stands for a corner of a place that there isn't
abbrev pub no_corner : Point
no_corner = record { x = pos 0; y = pos 0 }

-- what stands for an edge of a place that there isn't
abbrev pub no_edge : Edge
no_edge = record { start = no_corner; finish = no_corner }

-- z is between a and b, in either order
abbrev pub Between : ℤ → ℤ → ℤ → Type 0
Between a b z = ((a ≤ℤ z) × (z ≤ℤ b)) ⊎ ((b ≤ℤ z) × (z ≤ℤ a))

-- p lies on the straight line of the edge, and between its ends
pub record IsOn (e : Edge) (p : PlanePoint) : Type 0 where
  pub line : (e.finish.y -ℤ e.start.y) *ℤ (p.x -ℤ pos p.scale *ℤ e.start.x) ≡ (e.finish.x -ℤ e.start.x) *ℤ (p.y -ℤ pos p.scale *ℤ e.start.y)
  pub across : Between (pos p.scale *ℤ e.start.x) (pos p.scale *ℤ e.finish.x) p.x
  pub along : Between (pos p.scale *ℤ e.start.y) (pos p.scale *ℤ e.finish.y) p.y

-- 1 where b is below a and the way from a to b crosses the row of p strictly to the left of p; else 0. The end of lesser
-- y counts and the other doesn't, so that a row through a corner crosses what the rows just below it cross:
--        a                       p.y is from a.y on and less than b.y, and
--         \                      (p.y - a.y) (b.x - a.x) / (b.y - a.y)  <  p.x - a.x,
--   row ---\------ p             both sides times b.y - a.y
--           b
abbrev pub down_crossing : Point → Point → PlanePoint → ℕ
down_crossing a b p =
    cond (int_le (pos p.scale *ℤ a.y) p.y && (int_lt p.y (pos p.scale *ℤ b.y) && int_lt ((b.x -ℤ a.x) *ℤ (p.y -ℤ pos p.scale *ℤ a.y)) ((b.y -ℤ a.y) *ℤ (p.x -ℤ pos p.scale *ℤ a.x)))) 1 0

-- the same for an edge in either direction; a level edge crosses no row
unfoldable pub crossing : PlanePoint → Edge → ℕ
crossing p e = down_crossing e.start e.finish p + down_crossing e.finish e.start p

-- how many of the edges cross the row of p to its left
abbrev pub crossings : List Edge → PlanePoint → ℕ
crossings es p = sum_by (crossing p) es

-- the number is odd
abbrev pub IsOdd : ℕ → Type 0
IsOdd n = n % 2 ≡ 1

-- the edges cover p: p lies on one of them, or an odd number of them cross its row to its left
unfoldable pub Covers : List Edge → PlanePoint → Type 0
Covers es p = Any (λ e. IsOn e p) es ⊎ IsOdd (crossings es p)

-- p is strictly inside: covered, and on no edge
pub record StrictlyCovers (es : List Edge) (p : PlanePoint) : Type 0 where
  pub odd : IsOdd (crossings es p)
  pub off : Any (λ e. IsOn e p) es → ⊥

-- the edges from a on along the corners, the last one to z
abbrev pub edges_to : Point → Point → List Point → List Edge
edges_to z a [] = record { start = a; finish = z } ∷ []
edges_to z a (b ∷ cs) = record { start = a; finish = b } ∷ edges_to z b cs

-- the edges of the chain of corners, closed by the edge from its last corner to its first
abbrev pub edges_of : List Point → List Edge
edges_of [] = []
edges_of (a ∷ cs) = edges_to a a cs

-- the edges of all chains of a list, to be counted together: a chain inside another is a hole in it
abbrev pub edges_of_all : List (List Point) → List Edge
edges_of_all [] = []
edges_of_all (c ∷ cs) = edges_of c ++ edges_of_all cs

-- one of the closed chains covers p, each taken for itself
unfoldable pub CoversSome : List (List Point) → PlanePoint → Type 0
CoversSome chains p = Any (λ c. Covers (edges_of c) p) chains
