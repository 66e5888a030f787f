-- Where the least distance of two cores is: the law of whole reaches, on cores that are scaled up until a given distance of
-- theirs is the root of a whole number.
use Rattle.std.proofs.Common.{◌≡◌, refl, ℕ, ◌≤◌, ◌+◌, ◌*◌, ◌-◌, ◌⊎◌, inl, inr, arith, ap, sym, subst, ◌∙◌}
use Rattle.std.specs.Prelude.{ℤ, pos, ◌+ℤ◌, ◌-ℤ◌, ◌*ℤ◌, ◌≤ℤ◌}
use Rattle.std.proofs.lemmas.Int.{ints}
use Rattle.std.proofs.Math.Nat.{mul-le-mul_right}
use Rattle.touching.specs.Core.{Spot, Core, area, line, OnLine, InCore, IsWhole}
use Rattle.touching.specs.Inner.Decision.{Side, top, top_right, right, bottom_right, bottom, bottom_left, left, top_left, start_of, end_of, IsPointClose}
use Rattle.touching.specs.Laws.{AreMeeting, HasSide, HasCorner, IsNoFarther, CornerIsNoFarther, LeastLaw}
use Rattle.touching.proofs.Short.{IsShort, squares_are, scaled_square, as_short}
use Rattle.touching.proofs.Pairs.{Pair, pair_of}
use Rattle.touching.proofs.PointToLine.{test_near}
use Rattle.touching.proofs.LineToLine.{place, place_on, whole}
use Rattle.touching.proofs.Nearest.{CornerNear, Nearest, nearest}
use Rattle.plane.specs.Plane.{PlanePoint, Bounds, times, grid_point, minus, positive_product, scaled_dist_sq}
use Rattle.grid_num.proofs.Products.{mul_le, mul_add, mul_sub}
use Rattle.plane.proofs.Times.{IsTight-times}
use Rattle.plane.proofs.Points.{mul_mul, mul_swap, within_times}

abbrev spot_times : ℕ → Spot → Spot
spot_times e s = record { x = pos e *ℤ s.x; y = pos e *ℤ s.y }

abbrev scaled_core : ℕ → Core → Core
scaled_core e (area b) = area (times e b)
scaled_core e (line s t) = line (spot_times e s) (spot_times e t)

whole_scaled : (e : ℕ) (c : Core) → IsWhole c → IsWhole (scaled_core e c)
unfolding IsWhole
whole_scaled e (area b) w = IsTight-times e b w
whole_scaled e (line s t) w = tt

-- the point farther out, and a point of the scaled core farther in
out : ℕ → PlanePoint → PlanePoint
out e p = record { x = pos e *ℤ p.x; y = pos e *ℤ p.y; scale = p.scale; positive = p.positive }

back : (e : ℕ) → 1 ≤ e → PlanePoint → PlanePoint
back e one p = record { x = p.x; y = p.y; scale = p.scale * e; positive = positive_product p.scale e p.positive one }

low_out : (e k : ℕ) (b x : ℤ) → (pos k *ℤ b) ≤ℤ x → (pos k *ℤ (pos e *ℤ b)) ≤ℤ (pos e *ℤ x)
low_out e k b x h = omega (arith, ints, mul_le e (pos k *ℤ b) x h, mul_swap e k b)

high_out : (e k : ℕ) (b x : ℤ) → x ≤ℤ (pos k *ℤ b) → (pos e *ℤ x) ≤ℤ (pos k *ℤ (pos e *ℤ b))
high_out e k b x h = omega (arith, ints, mul_le e x (pos k *ℤ b) h, mul_swap e k b)

mean_out : (e k n i j : ℕ) (x s t : ℤ) → pos n *ℤ x ≡ pos k *ℤ (pos i *ℤ s +ℤ pos j *ℤ t)
    → pos n *ℤ (pos e *ℤ x) ≡ pos k *ℤ (pos i *ℤ (pos e *ℤ s) +ℤ pos j *ℤ (pos e *ℤ t))
mean_out e k n i j x s t h =
    omega (
      arith,
      ints,
      mul_swap n e x,
      ap (λ (z : ℤ). pos e *ℤ z) h,
      mul_swap e k (pos i *ℤ s +ℤ pos j *ℤ t),
      ap (λ (z : ℤ). pos k *ℤ z) (parts e i j s t),
    )
  where
    parts : (e i j : ℕ) (s t : ℤ) → pos e *ℤ (pos i *ℤ s +ℤ pos j *ℤ t) ≡ pos i *ℤ (pos e *ℤ s) +ℤ pos j *ℤ (pos e *ℤ t)
    parts e i j s t = omega (arith, ints, mul_add e (pos i *ℤ s) (pos j *ℤ t), mul_swap e i s, mul_swap e j t)

mean_back : (e k n i j : ℕ) (x s t : ℤ) → pos n *ℤ x ≡ pos k *ℤ (pos i *ℤ (pos e *ℤ s) +ℤ pos j *ℤ (pos e *ℤ t))
    → pos n *ℤ x ≡ pos (k * e) *ℤ (pos i *ℤ s +ℤ pos j *ℤ t)
mean_back e k n i j x s t h =
    omega (
      arith,
      ints,
      h,
      mul_mul k e (pos i *ℤ s +ℤ pos j *ℤ t),
      ap (λ (z : ℤ). pos k *ℤ z) (parts e i j s t),
    )
  where
    parts : (e i j : ℕ) (s t : ℤ) → pos e *ℤ (pos i *ℤ s +ℤ pos j *ℤ t) ≡ pos i *ℤ (pos e *ℤ s) +ℤ pos j *ℤ (pos e *ℤ t)
    parts e i j s t = omega (arith, ints, mul_add e (pos i *ℤ s) (pos j *ℤ t), mul_swap e i s, mul_swap e j t)

in_scaled : (e : ℕ) (c : Core) (p : PlanePoint) → InCore c p → InCore (scaled_core e c) (out e p)
unfolding InCore out
in_scaled e (area b) p h = record {
  x_low = low_out e p.scale b.x0 p.x h.x_low;
  x_high = high_out e p.scale b.x1 p.x h.x_high;
  y_low = low_out e p.scale b.y0 p.y h.y_low;
  y_high = high_out e p.scale b.y1 p.y h.y_high;
  s_low = omega (arith, ints, low_out e p.scale b.s0 (p.x +ℤ p.y) h.s_low, mul_add e p.x p.y);
  s_high = omega (arith, ints, high_out e p.scale b.s1 (p.x +ℤ p.y) h.s_high, mul_add e p.x p.y);
  d_low = omega (arith, ints, low_out e p.scale b.d0 (p.x -ℤ p.y) h.d_low, mul_sub e p.x p.y);
  d_high = omega (arith, ints, high_out e p.scale b.d1 (p.x -ℤ p.y) h.d_high, mul_sub e p.x p.y);
}
in_scaled e (line s t) p h = record {
  i = h.i;
  j = h.j;
  some = h.some;
  x = mean_out e p.scale (h.i + h.j) h.i h.j p.x s.x t.x h.x;
  y = mean_out e p.scale (h.i + h.j) h.i h.j p.y s.y t.y h.y;
}

from_scaled : (e : ℕ) (one : 1 ≤ e) (c : Core) (p : PlanePoint) → InCore (scaled_core e c) p → InCore c (back e one p)
unfolding InCore back
from_scaled e one (area b) p h = within_times p.scale e b p.x p.y h
from_scaled e one (line s t) p h = record {
  i = h.i;
  j = h.j;
  some = h.some;
  x = mean_back e p.scale (h.i + h.j) h.i h.j p.x s.x t.x h.x;
  y = mean_back e p.scale (h.i + h.j) h.i h.j p.y s.y t.y h.y;
}

-- of a line alone
line_back : (e : ℕ) (one : 1 ≤ e) (s t : Spot) (p : PlanePoint) → OnLine (spot_times e s) (spot_times e t) p → OnLine s t (back e one p)
unfolding InCore
line_back e one s t p h = from_scaled e one (line s t) p h

-- the sides and corners of a scaled core
abbrev made : ℤ → ℤ → Spot
made x y = record { x = x; y = y }

spots : (x y u v : ℤ) → x ≡ u → y ≡ v → made x y ≡ made u v
spots x y u v e f = cc

start_times : (e : ℕ) (b : Bounds) (k : Side) → start_of (times e b) k ≡ spot_times e (start_of b k)
unfolding start_of
start_times e b top = spots _ _ _ _ (sym (mul_sub e b.s0 b.y0)) refl
start_times e b top_right = spots _ _ _ _ (sym (mul_add e b.d1 b.y0)) refl
start_times e b right = spots _ _ _ _ refl (sym (mul_sub e b.x1 b.d1))
start_times e b bottom_right = spots _ _ _ _ refl (sym (mul_sub e b.s1 b.x1))
start_times e b bottom = spots _ _ _ _ (sym (mul_sub e b.s1 b.y1)) refl
start_times e b bottom_left = spots _ _ _ _ (sym (mul_add e b.d0 b.y1)) refl
start_times e b left = spots _ _ _ _ refl (sym (mul_sub e b.x0 b.d0))
start_times e b top_left = spots _ _ _ _ refl (sym (mul_sub e b.s0 b.x0))

end_times : (e : ℕ) (b : Bounds) (k : Side) → end_of (times e b) k ≡ spot_times e (end_of b k)
unfolding end_of
end_times e b top = start_times e b top_right
end_times e b top_right = start_times e b right
end_times e b right = start_times e b bottom_right
end_times e b bottom_right = start_times e b bottom
end_times e b bottom = start_times e b bottom_left
end_times e b bottom_left = start_times e b left
end_times e b left = start_times e b top_left
end_times e b top_left = start_times e b top

record SideBack (e : ℕ) (c : Core) (s t : Spot) : Type 0 where
  u : Spot
  v : Spot
  is_side : HasSide c u v
  start : s ≡ spot_times e u
  end : t ≡ spot_times e v

side_back : (e : ℕ) (c : Core) (s t : Spot) → HasSide (scaled_core e c) s t → SideBack e c s t
unfolding HasSide
side_back e (area b) s t h = record {
  u = start_of b h.0;
  v = end_of b h.0;
  is_side = (h.0, refl, refl);
  start = h.1 ∙ start_times e b h.0;
  end = h.2 ∙ end_times e b h.0;
}
side_back e (line u v) s t h = record { u = u; v = v; is_side = (refl, refl); start = h.0; end = h.1 }

corner_back : (e : ℕ) (c : Core) (s : Spot) → HasCorner (scaled_core e c) s → (u : Spot) × HasCorner c u × (s ≡ spot_times e u)
unfolding HasCorner
corner_back e c s (t, inl h) = let k = side_back e c s t h in (k.u, (k.v, inl k.is_side), k.start)
corner_back e c s (t, inr h) = let k = side_back e c t s h in (k.v, (k.u, inr k.is_side), k.end)

-- the squared length from a corner to a place, farther out and here
farther_in : (m n e : ℕ) (x y : ℤ) → IsShort m n x y → ((x *ℤ x +ℤ y *ℤ y) *ℤ pos (e * e)) ≤ℤ (pos m *ℤ pos ((1 * (n * e)) * (1 * (n * e))))
farther_in m n e x y h =
    let k = squares_are x y in
    let l : k.0 * (e * e) ≤ (m * (n * n)) * (e * e) = mul-le-mul_right (e * e) (omega (arith, ints, h, k.1)) in
    rw (k.1) (omega (arith, ints, l))

-- from a corner to the place n j of a side, here and farther out
step : (e n j : ℕ) (p s t : ℤ) → j ≤ n
    → (pos (n * e) *ℤ p -ℤ pos 1 *ℤ (pos (n - j) *ℤ (pos e *ℤ s) +ℤ pos j *ℤ (pos e *ℤ t)))
    ≡ (pos n *ℤ (pos e *ℤ p -ℤ pos e *ℤ s) -ℤ pos j *ℤ (pos e *ℤ t -ℤ pos e *ℤ s))
step e n j p s t h = omega (arith, ints, whole n j (pos e *ℤ s) (pos e *ℤ t) h, mul_sub n (pos e *ℤ p) (pos e *ℤ s), mul_mul n e p)

-- the corner and the place that the scaled cores tell
module _ (c d : Core) (p q : PlanePoint) (m : ℕ) (em : scaled_dist_sq p q ≡ pos m) where
  from_close : (e : ℕ) → e ≡ (minus p q).scale → (one : 1 ≤ e) (s u v : Spot) → HasCorner c s → HasSide d u v
      → IsPointClose m (spot_times e s) (spot_times e u) (spot_times e v) → CornerIsNoFarther c d p q
  unfolding IsPointClose place back IsNoFarther minus
  from_close e ee one s u v hc hs near =
      let n = test_near m _ _ _ _ near in
      let there = place n.n n.j n.some (spot_times e u) (spot_times e v) in
      let on : OnLine (spot_times e u) (spot_times e v) there = place_on n.n n.j n.some (spot_times e u) (spot_times e v) n.inside in
      record {
        corner = s;
        from = u;
        to = v;
        at = back e one there;
        is_corner = hc;
        is_side = hs;
        on = line_back e one u v there on;
        no_farther = measured e ee one s there
            (as_short m n.n _ _ _ _ (step e n.n n.j s.x u.x v.x n.inside) (step e n.n n.j s.y u.y v.y n.inside) n.close);
      }
    where
      measured : (e : ℕ) → e ≡ (minus p q).scale → (one : 1 ≤ e) (s : Spot) (z : PlanePoint)
          → IsShort m z.scale (pos (z.scale * e) *ℤ s.x -ℤ pos 1 *ℤ z.x) (pos (z.scale * e) *ℤ s.y -ℤ pos 1 *ℤ z.y)
          → IsNoFarther (grid_point s.x s.y) (back e one z) p q
      measured e ee one s z h = subst
          (λ (w : ℤ). (scaled_dist_sq (grid_point s.x s.y) (back e one z) *ℤ pos ((minus p q).scale * (minus p q).scale)) ≤ℤ (w *ℤ pos ((minus (grid_point s.x s.y) (back e one z)).scale * (minus (grid_point s.x s.y) (back e one z)).scale)))
          (sym em)
          (subst (λ (k : ℕ). (scaled_dist_sq (grid_point s.x s.y) (back e one z) *ℤ pos (k * k)) ≤ℤ (pos m *ℤ pos ((minus (grid_point s.x s.y) (back e one z)).scale * (minus (grid_point s.x s.y) (back e one z)).scale))) ee
          (farther_in m z.scale e _ _ h))

  from_corner : (e : ℕ) → e ≡ (minus p q).scale → 1 ≤ e → CornerNear m (scaled_core e c) (scaled_core e d) → CornerIsNoFarther c d p q
  from_corner e ee one h =
      let k = corner_back e c h.corner h.is_corner in
      let l = side_back e d h.from h.to h.is_side in
      from_close e ee one k.0 l.u l.v k.1 l.is_side
      (subst (λ (z : Spot). IsPointClose m (spot_times e k.0) (spot_times e l.u) z) l.end
      (subst (λ (z : Spot). IsPointClose m (spot_times e k.0) z h.to) l.start (subst (λ (z : Spot). IsPointClose m z h.from h.to) k.2 h.close)))

-- two points of the cores, on the scaled cores
pair_out : (m e : ℕ) (c d : Core) (p q : PlanePoint) → e ≡ (minus p q).scale → scaled_dist_sq p q ≡ pos m → InCore c p → InCore d q
    → Pair m (scaled_core e c) (scaled_core e d)
unfolding out minus
pair_out m e c d p q ee em h g =
    pair_of m (scaled_core e c) (scaled_core e d) (out e p) (out e q) (in_scaled e c p h) (in_scaled e d q g)
    (as_short m (p.scale * q.scale) _ _ _ _ (further p.scale q.scale p.x q.x) (further p.scale q.scale p.y q.y) short)
  where
    further : (k j : ℕ) (x y : ℤ) → (pos j *ℤ (pos e *ℤ x) -ℤ pos k *ℤ (pos e *ℤ y)) ≡ pos e *ℤ (pos j *ℤ x -ℤ pos k *ℤ y)
    further k j x y = omega (arith, ints, mul_swap j e x, mul_swap k e y, mul_sub e (pos j *ℤ x) (pos k *ℤ y))

    short : IsShort m (p.scale * q.scale) (pos e *ℤ (pos q.scale *ℤ p.x -ℤ pos p.scale *ℤ q.x)) (pos e *ℤ (pos q.scale *ℤ p.y -ℤ pos p.scale *ℤ q.y))
    short = subst (λ (k : ℕ). IsShort m k (pos e *ℤ (pos q.scale *ℤ p.x -ℤ pos p.scale *ℤ q.x)) (pos e *ℤ (pos q.scale *ℤ p.y -ℤ pos p.scale *ℤ q.y))) ee
        (omega (arith, ints, scaled_square e (pos q.scale *ℤ p.x -ℤ pos p.scale *ℤ q.x) (pos q.scale *ℤ p.y -ℤ pos p.scale *ℤ q.y), ap (λ (z : ℤ). pos (e * e) *ℤ z) em))

meeting_back : (e : ℕ) → 1 ≤ e → (c d : Core) → AreMeeting (scaled_core e c) (scaled_core e d) → AreMeeting c d
unfolding AreMeeting
meeting_back e one c d h = (back e one h.0, from_scaled e one c h.0 h.1, from_scaled e one d h.0 h.2)

pub least_law : LeastLaw
unfolding Nearest
least_law c d p q w z h g =
    let m = squares_are (minus p q).x (minus p q).y in
    by_cases m.0 m.1 (nearest m.0 (scaled_core e c) (scaled_core e d) (whole_scaled e c w) (whole_scaled e d z) (pair_out m.0 e c d p q refl m.1 h g))
  where
    e : ℕ
    e = (minus p q).scale

    turned : (m : ℕ) → scaled_dist_sq p q ≡ pos m → CornerNear m (scaled_core e d) (scaled_core e c) → CornerIsNoFarther d c p q
    turned m em k = from_corner d c p q m em e refl (minus p q).positive k

    by_cases : (m : ℕ) → scaled_dist_sq p q ≡ pos m → Nearest m (scaled_core e c) (scaled_core e d) → AreMeeting c d ⊎ (CornerIsNoFarther c d p q ⊎ CornerIsNoFarther d c p q)
    by_cases m em (inl k) = inl (meeting_back e (minus p q).positive c d k)
    by_cases m em (inr (inl k)) = inr (inl (from_corner c d p q m em e refl (minus p q).positive k))
    by_cases m em (inr (inr k)) = inr (inr (turned m em k))
