-- The brush at the grid points of a cell, and the cell's piece.
use Rattle.std.proofs.Common.{ℕ, ◌*◌, ◌≤◌, arith, lit≤}
use Rattle.std.specs.Prelude.{ℤ}
use Rattle.std.proofs.lemmas.Int.{ints}
use Rattle.grid_num.specs.declared.Point.{Point}
use Rattle.plane.specs.Plane.{PlanePoint, Bounds, Within, times, In, IsTight, IsMeeting, ball_of, moved, grid_point, positive_product}
use Rattle.plane.proofs.Inside.{IsInside, inside_in}
use Rattle.plane.proofs.Near.{IsTight-ball}
use Rattle.plane.proofs.Points.{In-IsInSum, mul_mul, within_times}
use Rattle.plane.proofs.Moved.{grid_law}
use Rattle.touching.specs.Core.{InCore, Touches}
use Rattle.copper_shape.specs.Shapes.{Copper}
use Rattle.grid_sets.specs.Brush.{IsBrushed}
use Rattle.grid_sets.proofs.CellBrushed.{brush_law}
use Rattle.islands.specs.Held.{IsTouching}
use Rattle.fills.specs.Fills.{brushed}

-- the brush of the radius at the grid point
abbrev pub laid : ℕ → Point → Bounds
laid r c = moved (ball_of r) c.x c.y

brush_inside : (r : ℕ) (o : Bounds) (c : Point) → Within o c.x c.y → IsInside (laid r c) (brushed r o)
brush_inside r o c w = record {
  x0 = omega (arith, ints, w.x_low);
  x1 = omega (arith, ints, w.x_high);
  y0 = omega (arith, ints, w.y_low);
  y1 = omega (arith, ints, w.y_high);
  s0 = omega (arith, ints, w.s_low);
  s1 = omega (arith, ints, w.s_high);
  d0 = omega (arith, ints, w.d_low);
  d1 = omega (arith, ints, w.d_high);
}

-- the piece has the points of the brush at the cell's grid points, and no others
pub to_piece : (r : ℕ) (o : Bounds) (c : Point) (p : PlanePoint) → Within o c.x c.y → In (laid r c) p → In (brushed r o) p
to_piece r o c p w h = inside_in (laid r c) (brushed r o) p (brush_inside r o c w) h

brushed_at : (r : ℕ) (o : Bounds) (p : PlanePoint) → IsBrushed r o p → (c : Point) × Within o c.x c.y × In (laid r c) p
unfolding IsBrushed
brushed_at r o p (x, y, w, at) = (record { x = x; y = y }, w, at)

pub from_piece : (r : ℕ) (o : Bounds) (p : PlanePoint) → 10 ≤ r → IsTight o → In (brushed r o) p
    → (c : Point) × Within o c.x c.y × In (laid r c) p
from_piece r o p wide t h = brushed_at r o p ((brush_law r o p wide t).0 (In-IsInSum o (ball_of r) p t (IsTight-ball r) h))

-- the grid point itself is in the brush there
own_within : (r : ℕ) (c : Point) → Within (laid r c) c.x c.y
unfolding ball_of
own_within r c = record {
  x_low = omega (arith, ints);
  x_high = omega (arith, ints);
  y_low = omega (arith, ints);
  y_high = omega (arith, ints);
  s_low = omega (arith, ints);
  s_high = omega (arith, ints);
  d_low = omega (arith, ints);
  d_high = omega (arith, ints);
}

pub brush_meets : (r : ℕ) (c : Point) → IsMeeting (laid r c) (laid r c)
unfolding IsMeeting
brush_meets r c = let at = (grid_law (laid r c) c.x c.y).1 (own_within r c) in (grid_point c.x c.y, at, at)

-- ---- meeting
pub pieces_meet : (r : ℕ) (o u : Bounds) (c d : Point) → Within o c.x c.y → Within u d.x d.y → IsMeeting (laid r c) (laid r d)
    → IsMeeting (brushed r o) (brushed r u)
unfolding IsMeeting
pieces_meet r o u c d w v (p, a, b) = (p, to_piece r o c p w a, to_piece r u d p v b)

-- the brushes at a point of each meet
pub record AreBrushesMeeting (r : ℕ) (o u : Bounds) : Type 0 where
  pub from : Point
  pub to : Point
  pub in_from : Within o from.x from.y
  pub in_to : Within u to.x to.y
  pub meet : IsMeeting (laid r from) (laid r to)

pub brushes_meet : (r : ℕ) (o u : Bounds) → 10 ≤ r → IsTight o → IsTight u → IsMeeting (brushed r o) (brushed r u) → AreBrushesMeeting r o u
unfolding IsMeeting
brushes_meet r o u wide s t (p, a, b) =
    let c = from_piece r o p wide s a in
    let d = from_piece r u p wide t b in
    record { from = c.0; to = d.0; in_from = c.1; in_to = d.1; meet = (p, c.2, d.2) }

-- an octagon meets the piece exactly where it meets the brush at some point of the cell
pub piece_met : (r : ℕ) (l o : Bounds) (c : Point) → Within o c.x c.y → IsMeeting l (laid r c) → IsMeeting l (brushed r o)
unfolding IsMeeting
piece_met r l o c w (p, a, b) = (p, a, to_piece r o c p w b)

pub met_piece : (r : ℕ) (l o : Bounds) → 10 ≤ r → IsTight o → IsMeeting l (brushed r o) → (c : Point) × Within o c.x c.y × IsMeeting l (laid r c)
unfolding IsMeeting
met_piece r l o wide t (p, a, b) = let c = from_piece r o p wide t b in (c.0, c.1, (p, a, c.2))

-- ---- touching, at four times the scale
times_within : (j k : ℕ) (b : Bounds) (x y : ℤ) → Within (times (j * k) b) x y → Within (times j (times k b)) x y
times_within j k b x y w = record {
  x_low = omega (arith, ints, mul_mul j k b.x0, w.x_low);
  x_high = omega (arith, ints, mul_mul j k b.x1, w.x_high);
  y_low = omega (arith, ints, mul_mul j k b.y0, w.y_low);
  y_high = omega (arith, ints, mul_mul j k b.y1, w.y_high);
  s_low = omega (arith, ints, mul_mul j k b.s0, w.s_low);
  s_high = omega (arith, ints, mul_mul j k b.s1, w.s_high);
  d_low = omega (arith, ints, mul_mul j k b.d0, w.d_low);
  d_high = omega (arith, ints, mul_mul j k b.d1, w.d_high);
}

fourth : PlanePoint → PlanePoint
fourth p = record { x = p.x; y = p.y; scale = p.scale * 4; positive = positive_product p.scale 4 p.positive (lit≤ tt) }

in_fourth : (o : Bounds) (p : PlanePoint) → In (times 4 o) p → In o (fourth p)
unfolding fourth
in_fourth o p w = within_times p.scale 4 o p.x p.y w

fourth_in : (o : Bounds) (p : PlanePoint) → In o (fourth p) → In (times 4 o) p
unfolding fourth
fourth_in o p w = times_within p.scale 4 o p.x p.y w

pub piece_touched : (r : ℕ) (s : Copper) (o : Bounds) (c : Point) → Within o c.x c.y → IsTouching s (laid r c) → IsTouching s (brushed r o)
unfolding IsTouching Touches InCore
piece_touched r s o c w (p, q, a, b, e) = (p, q, a, fourth_in (brushed r o) q (to_piece r o c (fourth q) w (in_fourth (laid r c) q b)), e)

pub touched_piece : (r : ℕ) (s : Copper) (o : Bounds) → 10 ≤ r → IsTight o → IsTouching s (brushed r o)
    → (c : Point) × Within o c.x c.y × IsTouching s (laid r c)
unfolding IsTouching Touches InCore
touched_piece r s o wide t (p, q, a, b, e) =
    let c = from_piece r o (fourth q) wide t (in_fourth (brushed r o) q b) in
    (c.0, c.1, (p, q, a, fourth_in (laid r c.0) q c.2, e))
