-- The laws of hulls that the crates above rest on.
use Rattle.std.specs.Prelude.{◌≡◌, ℕ, ◌*◌, ◌≤◌, ◌<◌, ◌↔◌, ◌⊎◌, false, true, ℤ, pos, ◌+ℤ◌, ◌-ℤ◌, ◌*ℤ◌, ◌≤ℤ◌, List, length, Any}
use Rattle.std.specs.List.{All}
use Rattle.std.proofs.Common.{lit≤}
use Rattle.plane.specs.Plane.{PlanePoint, Bounds, Within, In, IsTight, box_of, grid_point, positive_product}
use Rattle.grid_num.specs.declared.Point.{Point}
pub use Rattle.touching.specs.Core.{spot}
use Rattle.touching.specs.Core.{Core, Spot, area, line, OnLine, InCore, InCopper}
use Rattle.hulls.specs.Cells.{floor_of, ceil_of, around}
use Rattle.hulls.specs.Hulls.{hulls_of, edge_hulls_of, chord_of, in_units}

-- x / n rounded down is the greatest whole number of which n times is at most x
abbrev pub FloorLaw : Type 0
FloorLaw = (n : ℕ) (x m : ℤ) → 1 ≤ n → (m ≤ℤ floor_of n x) ↔ ((pos n *ℤ m) ≤ℤ x)

-- and rounded up the least of which n times is at least x
abbrev pub CeilLaw : Type 0
CeilLaw = (n : ℕ) (x m : ℤ) → 1 ≤ n → (ceil_of n x ≤ℤ m) ↔ (x ≤ℤ (pos n *ℤ m))

-- r is the least tight octagon that holds the grid points: each other octagon that holds them contains it
pub record IsLeastRound (ps : List Point) (r : Bounds) : Type 0 where
  pub tight : IsTight r
  pub holds : All (λ p. Within r p.x p.y) ps
  pub least : (b : Bounds) (q : PlanePoint) → All (λ p. Within b p.x p.y) ps → In r q → In b q

-- the octagon round grid points is the least one that holds them
abbrev pub LeastRoundLaw : Type 0
LeastRoundLaw = (ps : List Point) → 0 < length ps → IsLeastRound ps (around ps)

-- and there is no other
abbrev pub OneLeastLaw : Type 0
OneLeastLaw = (ps : List Point) (r : Bounds) → 0 < length ps → IsLeastRound ps r → r ≡ around ps

-- the point is in one of the octagons
abbrev pub InSome : List Bounds → PlanePoint → Type 0
InSome hulls p = Any (λ h. In h p) hulls

-- every point of copper, at every scale, is in one of its hulls
abbrev pub CopperInHullsLaw : Type 0
CopperInHullsLaw = (c : Core) (r : ℕ) (p : PlanePoint) → InCopper c r p → InSome (hulls_of c r) (in_units p)

-- ---- board edges, in nanometres
-- a point in nanometres, as a point in units
abbrev pub nm_in_units : PlanePoint → PlanePoint
nm_in_units p = record { x = p.x; y = p.y; scale = 2 * p.scale; positive = fine p.scale p.positive }
  where
    fine : (k : ℕ) → 1 ≤ k → 1 ≤ 2 * k
    fine k h = positive_product 2 k (lit≤ tt) h

-- every point of a board edge that is a segment is in one of its hulls
abbrev pub SegmentLaw : Type 0
SegmentLaw =
    (a b : Point) (p : PlanePoint) → OnLine (spot a) (spot b) p → InSome (edge_hulls_of a b false) (nm_in_units p)

-- p is in the disc on the chord from a to b: at most half the chord's length away from its midpoint, squared and times 4
unfoldable pub InChordDisc : Point → Point → PlanePoint → Type 0
InChordDisc a b p =
    ((p.x +ℤ p.x -ℤ pos p.scale *ℤ (a.x +ℤ b.x)) *ℤ (p.x +ℤ p.x -ℤ pos p.scale *ℤ (a.x +ℤ b.x))
    +ℤ (p.y +ℤ p.y -ℤ pos p.scale *ℤ (a.y +ℤ b.y)) *ℤ (p.y +ℤ p.y -ℤ pos p.scale *ℤ (a.y +ℤ b.y)))
    ≤ℤ (pos (p.scale * p.scale) *ℤ ((b.x -ℤ a.x) *ℤ (b.x -ℤ a.x) +ℤ (b.y -ℤ a.y) *ℤ (b.y -ℤ a.y)))

-- every point of the disc on an arc's chord is in one of its hulls
abbrev pub ChordLaw : Type 0
ChordLaw = (a b : Point) (p : PlanePoint) → InChordDisc a b p → InSome (edge_hulls_of a b true) (nm_in_units p)

-- the chord's length, rounded up
pub record IsChord (a b : Point) (m : ℕ) : Type 0 where
  pub reaches : ((b.x -ℤ a.x) *ℤ (b.x -ℤ a.x) +ℤ (b.y -ℤ a.y) *ℤ (b.y -ℤ a.y)) ≤ℤ pos (m * m)
  pub least : (n : ℕ) → ((b.x -ℤ a.x) *ℤ (b.x -ℤ a.x) +ℤ (b.y -ℤ a.y) *ℤ (b.y -ℤ a.y)) ≤ℤ pos (n * n) → m ≤ n

-- the disc on an arc's chord has the chord's length, rounded up
abbrev pub ChordLengthLaw : Type 0
ChordLengthLaw = (a b : Point) → IsChord a b (chord_of a b)

-- ---- pads
-- the core of a pad: a box (a point is one, too), or a level or upright segment
unfoldable pub IsPad : Core → Type 0
IsPad (area b) = (b ≡ box_of b.x0 b.x1 b.y0 b.y1) × (b.x0 ≤ℤ b.x1) × (b.y0 ≤ℤ b.y1)
IsPad (line s t) = (s.x ≡ t.x) ⊎ (s.y ≡ t.y)

-- a pad has one hull
abbrev pub OneHullLaw : Type 0
OneHullLaw = (c : Core) (r : ℕ) → IsPad c → length (hulls_of c r) ≡ 1

-- and it holds the places of its core, as its centre, with both coordinates rounded down
abbrev pub CentreLaw : Type 0
CentreLaw =
    (c : Core) (r : ℕ) (x y : ℤ) → IsPad c → InCore c (grid_point x y)
    → All (λ h. Within h (floor_of 4 x) (floor_of 4 y)) (hulls_of c r)
