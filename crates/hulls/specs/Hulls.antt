-- The hulls of copper and of board edges: octagons, in units of the grid (2 nm), that hold all of it. Copper is given in
-- halves of a nanometre, 4 to the unit; a board edge in nanometres.
use Rattle.std.specs.Prelude.{ℕ, ◌≤◌, zero, suc, ◌+◌, ◌-◌, ◌*◌, min, max, ◌==◌, ◌&&◌, not, Bool, true, false, if◌then◌else◌, pos, ◌+ℤ◌, ◌-ℤ◌, ◌*ℤ◌, List, [], ◌∷◌}
use Rattle.std.specs.Int.{div_ceil}
use Rattle.std.specs.Int.RustNames.{unsigned_abs}
use Rattle.std.proofs.Common.{lit≤}
use Rattle.plane.specs.Plane.{PlanePoint, Bounds, ball_of, sum_of, box_of, positive_product}
use Rattle.grid_num.specs.Roots.{least_root}
use Rattle.grid_num.specs.declared.Point.{Point}
use Rattle.plane.specs.Corners.{corners_of}
use Rattle.touching.specs.Core.{Core, Spot, area, line}
use Rattle.hulls.specs.Cells.{points_round_all, around}

-- a place as a point of the code
abbrev pub corner : Spot → Point
corner s = record { x = s.x; y = s.y }

-- the octagon of copper with these corners, n to the unit, and a radius of r halves: the least one round the cells of the
-- corners, plus the octagon round the disc of the radius, rounded up to units
unfoldable pub hull_of : ℕ → List Point → ℕ → Bounds
hull_of n corners r = sum_of (around (points_round_all n corners)) (ball_of (div_ceil r 4))

-- a segment of that width and height is neither level nor upright nor slanted by 45 degrees
unfoldable pub is_slanted : ℕ → ℕ → Bool
is_slanted w h = not (w == 0) && (not (h == 0) && not (w == h))

-- into how many pieces it is cut: one octagon round a long slanted segment would hold much that isn't copper, so each
-- 400,000 halves (0.2 mm) of its longer side begin a piece, up to 64
unfoldable pub piece_count : ℕ → ℕ → ℕ
piece_count w h = if is_slanted w h then min 64 (max 1 (div_ceil (max w h) 400000)) else 1

-- the i-th of the places that cut the segment from s to t into k equal pieces, times k, so that it is exact: the mean of
-- the ends with the weights k - i and i
unfoldable pub cut_at : Spot → Spot → ℕ → ℕ → Point
cut_at s t k i =
    record {
      x = pos (k - i) *ℤ s.x +ℤ pos i *ℤ t.x;
      y = pos (k - i) *ℤ s.y +ℤ pos i *ℤ t.y;
    }

-- the octagon of the piece from the i-th place to the next
unfoldable pub piece_hull : Spot → Spot → ℕ → ℕ → ℕ → Bounds
piece_hull s t k r i = hull_of (4 * k) (cut_at s t k i ∷ cut_at s t k (suc i) ∷ []) r

-- those of n pieces, from the i-th on
unfoldable pub piece_hulls : Spot → Spot → ℕ → ℕ → ℕ → ℕ → List Bounds
piece_hulls s t k r i zero = []
piece_hulls s t k r i (suc n) = piece_hull s t k r i ∷ piece_hulls s t k r (suc i) n

-- into how many pieces the segment from s to t is cut
abbrev pub count_pieces : Spot → Spot → ℕ
count_pieces s t = piece_count (unsigned_abs (t.x -ℤ s.x)) (unsigned_abs (t.y -ℤ s.y))

-- the hulls of a core and a radius: one octagon of its corners, or, of a slanted segment, one of each piece
unfoldable pub hulls_of : Core → ℕ → List Bounds
hulls_of (area b) r = hull_of 4 (corners_of b) r ∷ []
hulls_of (line s t) r = piece_hulls s t (count_pieces s t) r 0 (count_pieces s t)

-- a point in halves, as a point in units
abbrev pub in_units : PlanePoint → PlanePoint
in_units p = record { x = p.x; y = p.y; scale = 4 * p.scale; positive = fine p.scale p.positive }
  where
    fine : (k : ℕ) → 1 ≤ k → 1 ≤ 4 * k
    fine k h = positive_product 4 k (lit≤ tt) h

-- ---- board edges

-- the length of the chord from a to b, rounded up: the least m with m * m at least dx * dx + dy * dy
unfoldable pub chord_of : Point → Point → ℕ
chord_of a b =
    least_root
    (unsigned_abs (b.x -ℤ a.x) * unsigned_abs (b.x -ℤ a.x) + unsigned_abs (b.y -ℤ a.y) * unsigned_abs (b.y -ℤ a.y))
    (unsigned_abs (b.x -ℤ a.x) + unsigned_abs (b.y -ℤ a.y))

-- a place given in nanometres, in halves
abbrev pub in_halves : Point → Spot
in_halves p = record { x = p.x +ℤ p.x; y = p.y +ℤ p.y }

-- the core, in halves, that stands for an edge from a to b, given in nanometres: its segment, or, where it is the chord
-- of an arc, the chord's midpoint
unfoldable pub edge_core : Point → Point → Bool → Core
edge_core a b false = line (in_halves a) (in_halves b)
edge_core a b true = area (box_of (a.x +ℤ b.x) (a.x +ℤ b.x) (a.y +ℤ b.y) (a.y +ℤ b.y))

-- its radius: none, or half the chord, which in halves is the chord's length in nanometres
unfoldable pub edge_radius : Point → Point → Bool → ℕ
edge_radius a b false = 0
edge_radius a b true = chord_of a b

-- the hulls of a board edge: those of its segment, or of the disc on an arc's chord
unfoldable pub edge_hulls_of : Point → Point → Bool → List Bounds
edge_hulls_of a b bow = hulls_of (edge_core a b bow) (edge_radius a b bow)
