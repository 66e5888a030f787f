-- The sides of an area: their points are the area's, and what is on a bound is on a side.
use Rattle.std.proofs.Common.{refl, ℕ, ◌+◌, inl, inr, arith, sym}
use Rattle.std.specs.Prelude.{ℤ, pos, ◌+ℤ◌, ◌-ℤ◌, ◌*ℤ◌, ◌≤ℤ◌}
use Rattle.std.proofs.lemmas.Int.{ints}
use Rattle.touching.specs.Core.{Spot, OnLine}
use Rattle.touching.specs.Inner.Decision.{Side, top, top_right, right, bottom_right, bottom, bottom_left, left, top_left, start_of, end_of}
use Rattle.touching.proofs.Ring.{weigh}
use Rattle.touching.proofs.Means.{upward, downward, level, along_to, against_to}
use Rattle.touching.proofs.Leave.{OnBound}
use Rattle.plane.specs.Plane.{PlanePoint, Bounds, In, Within, IsTight, times}
use Rattle.grid_num.proofs.Products.{mul_add, mul_sub, mul_le}
use Rattle.plane.proofs.Points.{In-same}

low : (i j : ℕ) (c a b : ℤ) → c ≤ℤ a → c ≤ℤ b → (pos (i + j) *ℤ c) ≤ℤ (pos i *ℤ a +ℤ pos j *ℤ b)
low i j c a b h k = omega (arith, ints, weigh i j c, mul_le i c a h, mul_le j c b k)

high : (i j : ℕ) (c a b : ℤ) → a ≤ℤ c → b ≤ℤ c → (pos i *ℤ a +ℤ pos j *ℤ b) ≤ℤ (pos (i + j) *ℤ c)
high i j c a b h k = omega (arith, ints, weigh i j c, mul_le i a c h, mul_le j b c k)

-- bounds of both ends hold for their means
pub mean_in : (o : Bounds) (s t : Spot) (i j : ℕ) → Within o s.x s.y → Within o t.x t.y
    → Within (times (i + j) o) (pos i *ℤ s.x +ℤ pos j *ℤ t.x) (pos i *ℤ s.y +ℤ pos j *ℤ t.y)
mean_in o s t i j h k = record {
  x_low = low i j o.x0 s.x t.x h.x_low k.x_low;
  x_high = high i j o.x1 s.x t.x h.x_high k.x_high;
  y_low = low i j o.y0 s.y t.y h.y_low k.y_low;
  y_high = high i j o.y1 s.y t.y h.y_high k.y_high;
  s_low = omega (arith, ints, low i j o.s0 (s.x +ℤ s.y) (t.x +ℤ t.y) h.s_low k.s_low, mul_add i s.x s.y, mul_add j t.x t.y);
  s_high = omega (arith, ints, high i j o.s1 (s.x +ℤ s.y) (t.x +ℤ t.y) h.s_high k.s_high, mul_add i s.x s.y, mul_add j t.x t.y);
  d_low = omega (arith, ints, low i j o.d0 (s.x -ℤ s.y) (t.x -ℤ t.y) h.d_low k.d_low, mul_sub i s.x s.y, mul_sub j t.x t.y);
  d_high = omega (arith, ints, high i j o.d1 (s.x -ℤ s.y) (t.x -ℤ t.y) h.d_high k.d_high, mul_sub i s.x s.y, mul_sub j t.x t.y);
}

-- a line between two points of an area is in the area
pub line_in : (o : Bounds) (s t : Spot) (p : PlanePoint) → Within o s.x s.y → Within o t.x t.y → OnLine s t p → In o p
line_in o s t p h k on =
    In-same o (record { x = pos on.i *ℤ s.x +ℤ pos on.j *ℤ t.x; y = pos on.i *ℤ s.y +ℤ pos on.j *ℤ t.y; scale = on.i + on.j; positive = on.some })
    p (record { x = sym on.x; y = sym on.y }) (mean_in o s t on.i on.j h k)

pub start_in : (b : Bounds) (k : Side) → IsTight b → Within b (start_of b k).x (start_of b k).y
unfolding start_of
start_in b k t = by_side k
  where
    put : (x y : ℤ) → (b.x0 ≤ℤ x) × (x ≤ℤ b.x1) × (b.y0 ≤ℤ y) × (y ≤ℤ b.y1)
        → (b.s0 ≤ℤ (x +ℤ y)) × ((x +ℤ y) ≤ℤ b.s1) × (b.d0 ≤ℤ (x -ℤ y)) × ((x -ℤ y) ≤ℤ b.d1) → Within b x y
    put x y h g = record { x_low = h.0; x_high = h.1; y_low = h.2; y_high = h.3; s_low = g.0; s_high = g.1; d_low = g.2; d_high = g.3 }

    by_side : (k : Side) → Within b (start_of b k).x (start_of b k).y
    by_side top = put (b.s0 -ℤ b.y0) b.y0 (omega (arith, ints, t), omega (arith, ints, t), omega (arith, ints, t), omega (arith, ints, t)) (omega (arith, ints, t), omega (arith, ints, t), omega (arith, ints, t), omega (arith, ints, t))
    by_side top_right = put (b.d1 +ℤ b.y0) b.y0 (omega (arith, ints, t), omega (arith, ints, t), omega (arith, ints, t), omega (arith, ints, t)) (omega (arith, ints, t), omega (arith, ints, t), omega (arith, ints, t), omega (arith, ints, t))
    by_side right = put b.x1 (b.x1 -ℤ b.d1) (omega (arith, ints, t), omega (arith, ints, t), omega (arith, ints, t), omega (arith, ints, t)) (omega (arith, ints, t), omega (arith, ints, t), omega (arith, ints, t), omega (arith, ints, t))
    by_side bottom_right = put b.x1 (b.s1 -ℤ b.x1) (omega (arith, ints, t), omega (arith, ints, t), omega (arith, ints, t), omega (arith, ints, t)) (omega (arith, ints, t), omega (arith, ints, t), omega (arith, ints, t), omega (arith, ints, t))
    by_side bottom = put (b.s1 -ℤ b.y1) b.y1 (omega (arith, ints, t), omega (arith, ints, t), omega (arith, ints, t), omega (arith, ints, t)) (omega (arith, ints, t), omega (arith, ints, t), omega (arith, ints, t), omega (arith, ints, t))
    by_side bottom_left = put (b.d0 +ℤ b.y1) b.y1 (omega (arith, ints, t), omega (arith, ints, t), omega (arith, ints, t), omega (arith, ints, t)) (omega (arith, ints, t), omega (arith, ints, t), omega (arith, ints, t), omega (arith, ints, t))
    by_side left = put b.x0 (b.x0 -ℤ b.d0) (omega (arith, ints, t), omega (arith, ints, t), omega (arith, ints, t), omega (arith, ints, t)) (omega (arith, ints, t), omega (arith, ints, t), omega (arith, ints, t), omega (arith, ints, t))
    by_side top_left = put b.x0 (b.s0 -ℤ b.x0) (omega (arith, ints, t), omega (arith, ints, t), omega (arith, ints, t), omega (arith, ints, t)) (omega (arith, ints, t), omega (arith, ints, t), omega (arith, ints, t), omega (arith, ints, t))

pub end_in : (b : Bounds) (k : Side) → IsTight b → Within b (end_of b k).x (end_of b k).y
unfolding end_of
end_in b top t = start_in b top_right t
end_in b top_right t = start_in b right t
end_in b right t = start_in b bottom_right t
end_in b bottom_right t = start_in b bottom t
end_in b bottom t = start_in b bottom_left t
end_in b bottom_left t = start_in b left t
end_in b left t = start_in b top_left t
end_in b top_left t = start_in b top t

pub side_in : (b : Bounds) (k : Side) (p : PlanePoint) → IsTight b → OnLine (start_of b k) (end_of b k) p → In b p
side_in b k p t on = line_in b (start_of b k) (end_of b k) p (start_in b k t) (end_in b k t) on

-- a point on one of the bounds is on one of the sides
pub on_side : (b : Bounds) (p : PlanePoint) → In b p → OnBound b p → (k : Side) × OnLine (start_of b k) (end_of b k) p
unfolding OnBound start_of end_of
on_side b p h (inl e) =
    let m = downward p.scale (b.x0 -ℤ b.d0) (b.s0 -ℤ b.x0) p.y
    (omega (arith, ints, e, h.s_low, mul_sub p.scale b.s0 b.x0)) (omega (arith, ints, e, h.d_low, mul_sub p.scale b.x0 b.d0)) in
    (left, record { i = m.i; j = m.j; some = m.some; x = level p.scale m.i m.j b.x0 p.x e; y = m.is })
on_side b p h (inr (inl e)) =
    let m = upward p.scale (b.x1 -ℤ b.d1) (b.s1 -ℤ b.x1) p.y
    (omega (arith, ints, e, h.d_high, mul_sub p.scale b.x1 b.d1)) (omega (arith, ints, e, h.s_high, mul_sub p.scale b.s1 b.x1)) in
    (right, record { i = m.i; j = m.j; some = m.some; x = level p.scale m.i m.j b.x1 p.x e; y = m.is })
on_side b p h (inr (inr (inl e))) =
    let m = upward p.scale (b.s0 -ℤ b.y0) (b.d1 +ℤ b.y0) p.x
    (omega (arith, ints, e, h.s_low, mul_sub p.scale b.s0 b.y0)) (omega (arith, ints, e, h.d_high, mul_add p.scale b.d1 b.y0)) in
    (top, record { i = m.i; j = m.j; some = m.some; x = m.is; y = level p.scale m.i m.j b.y0 p.y e })
on_side b p h (inr (inr (inr (inl e)))) =
    let m = downward p.scale (b.s1 -ℤ b.y1) (b.d0 +ℤ b.y1) p.x
    (omega (arith, ints, e, h.d_low, mul_add p.scale b.d0 b.y1)) (omega (arith, ints, e, h.s_high, mul_sub p.scale b.s1 b.y1)) in
    (bottom, record { i = m.i; j = m.j; some = m.some; x = m.is; y = level p.scale m.i m.j b.y1 p.y e })
on_side b p h (inr (inr (inr (inr (inl e))))) =
    let m = upward p.scale b.x0 (b.s0 -ℤ b.y0) p.x h.x_low (omega (arith, ints, e, h.y_low, mul_sub p.scale b.s0 b.y0)) in (
      top_left,
      record {
        i = m.i;
        j = m.j;
        some = m.some;
        x = m.is;
        y = against_to p.scale m.i m.j b.x0 (b.s0 -ℤ b.y0) b.s0 _ _ p.y p.x refl (omega (arith, ints)) m.is (omega (arith, ints, e));
      },
    )
on_side b p h (inr (inr (inr (inr (inr (inl e)))))) =
    let m = downward p.scale b.x1 (b.s1 -ℤ b.y1) p.x (omega (arith, ints, e, h.y_high, mul_sub p.scale b.s1 b.y1)) h.x_high in (
      bottom_right,
      record {
        i = m.i;
        j = m.j;
        some = m.some;
        x = m.is;
        y = against_to p.scale m.i m.j b.x1 (b.s1 -ℤ b.y1) b.s1 _ _ p.y p.x refl (omega (arith, ints)) m.is (omega (arith, ints, e));
      },
    )
on_side b p h (inr (inr (inr (inr (inr (inr (inl e))))))) =
    let m = downward p.scale b.y1 (b.x0 -ℤ b.d0) p.y (omega (arith, ints, e, h.x_low, mul_sub p.scale b.x0 b.d0)) h.y_high in (
      bottom_left,
      record {
        i = m.i;
        j = m.j;
        some = m.some;
        x = along_to p.scale m.i m.j b.y1 (b.x0 -ℤ b.d0) b.d0 _ _ p.x p.y (omega (arith, ints)) (omega (arith, ints)) m.is (omega (arith, ints, e));
        y = m.is;
      },
    )
on_side b p h (inr (inr (inr (inr (inr (inr (inr e))))))) =
    let m = upward p.scale b.y0 (b.x1 -ℤ b.d1) p.y h.y_low (omega (arith, ints, e, h.x_high, mul_sub p.scale b.x1 b.d1)) in (
      top_right,
      record {
        i = m.i;
        j = m.j;
        some = m.some;
        x = along_to p.scale m.i m.j b.y0 (b.x1 -ℤ b.d1) b.d1 _ _ p.x p.y (omega (arith, ints)) (omega (arith, ints)) m.is (omega (arith, ints, e));
        y = m.is;
      },
    )
