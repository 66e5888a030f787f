-- The laws of what lies strictly inside.
use Rattle.std.specs.Prelude.{◌↔◌, ℕ, ◌≤◌, List, ℤ, pos, ◌*ℤ◌, Any}
use Rattle.plane.specs.Plane.{PlanePoint, Bounds, Within, StrictlyWithin, StrictlyIn, IsTight, AreNear, times, ball_of, sum_of, moved, box_of}
use Rattle.grid_num.specs.declared.Point.{Point}
use Rattle.plane.specs.Covering.{Edge, IsOn}
use Rattle.classes.specs.Classes.{Reaches}
use Rattle.grid_sets.specs.Rows.{Row, AreRows}
use Rattle.grid_sets.specs.Bands.{Band, AreBandsOf}
use Rattle.grid_sets.specs.Cells.{cells_of}
use Rattle.open_laws.specs.Open.{ReachesInto, AreOverlapping, IsLinkedIn, AreFirsts}

-- the brush at a grid point enters a tight octagon, and overlaps it if it has an inside, exactly where the grid point is
-- strictly within the octagon plus the brush
pub record OpenBrushLaw : Type 0 where
  pub octagon : (b : ℕ) (c : Bounds) (x y : ℤ) → 1 ≤ b → IsTight c
      → ReachesInto (moved (ball_of b) x y) c ↔ StrictlyWithin (sum_of c (ball_of b)) x y
  pub inside : (b : ℕ) (c : Bounds) (x y : ℤ) (p : PlanePoint) → 1 ≤ b → IsTight c → StrictlyIn c p
      → AreOverlapping (moved (ball_of b) x y) c ↔ StrictlyWithin (sum_of c (ball_of b)) x y

-- bounds that have an inside are entered exactly where they are overlapped
abbrev pub OpenLaw : Type 0
OpenLaw = (b c : Bounds) (p : PlanePoint) → StrictlyIn c p → ReachesInto b c ↔ AreOverlapping b c

-- A rectangle enters a tight octagon exactly where the octagon of the rectangle's inner grid points is near it at 1. There
-- may be no inner grid points: in half the unit there are some, unless no point at all is strictly in the rectangle.
pub record OpenBoxLaw : Type 0 where
  pub opened : (x0 x1 y0 y1 : ℤ) (inner o : Bounds) → IsTight inner
      → ((x y : ℤ) → Within inner x y ↔ StrictlyWithin (box_of x0 x1 y0 y1) x y) → IsTight o
      → ReachesInto (box_of x0 x1 y0 y1) o ↔ AreNear 1 inner o
  pub halved : (x0 x1 y0 y1 : ℤ) (inner o : Bounds) → IsTight inner
      → ((x y : ℤ) → Within inner x y ↔ StrictlyWithin (box_of (pos 2 *ℤ x0) (pos 2 *ℤ x1) (pos 2 *ℤ y0) (pos 2 *ℤ y1)) x y) → IsTight o
      → ReachesInto (box_of x0 x1 y0 y1) o ↔ AreNear 1 inner (times 2 o)
  pub flat : (x0 x1 y0 y1 : ℤ) (o : Bounds)
      → ((x y : ℤ) → StrictlyWithin (box_of (pos 2 *ℤ x0) (pos 2 *ℤ x1) (pos 2 *ℤ y0) (pos 2 *ℤ y1)) x y → ⊥)
      → ReachesInto (box_of x0 x1 y0 y1) o → ⊥

-- bounds with a point strictly inside have one on none of the edges
abbrev pub OffEdgesLaw : Type 0
OffEdgesLaw =
    (b : Bounds) (es : List Edge) (p : PlanePoint) → StrictlyIn b p
    → (q : PlanePoint) × StrictlyIn b q × (Any (λ e. IsOn e q) es → ⊥)

-- more: beside each point is one on none of the edges that lies strictly in all bounds that the point lies strictly in
abbrev pub BesideLaw : Type 0
BesideLaw =
    (es : List Edge) (p : PlanePoint)
    → (q : PlanePoint) × ((b : Bounds) → StrictlyIn b p → StrictlyIn b q) × (Any (λ e. IsOn e q) es → ⊥)

-- two grid points of one octagon are linked within it, step by step
abbrev pub CellLaw : Type 0
CellLaw =
    (b : ℕ) (o : Bounds) (p q : Point) → 1 ≤ b → Within o p.x p.y → Within o q.x q.y → Reaches (IsLinkedIn b o) p q

-- the left end of a cell's top row is the first of its points, and comes before the points of all later cells
abbrev pub FirstsLaw : Type 0
FirstsLaw = (rows : List Row) (bands : List Band) → AreRows rows → AreBandsOf rows bands → AreFirsts (cells_of bands)
