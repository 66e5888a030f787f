-- An area and a line are close, by the decision, exactly where points of them are within reach.
use Rattle.std.proofs.Common.{◌≡◌, refl, ℕ, ◌≤◌, ◌+◌, ◌*◌, inl, inr, ⊎_elim, arith, ap, sym, subst, ◌∙◌}
use Rattle.std.specs.Prelude.{ℤ, pos, ◌+ℤ◌, ◌-ℤ◌, ◌*ℤ◌}
use Rattle.std.proofs.lemmas.Int.{ints}
use lib.IntN.{zero-*ℤ}
use Rattle.touching.specs.Core.{Core, Spot, area, line, OnLine, InCore}
use Rattle.touching.specs.Inner.Decision.{start_of, end_of, IsAreaClose}
use Rattle.touching.proofs.Ring.{weigh}
use Rattle.touching.proofs.Short.{IsShort, shrunk, as_short}
use Rattle.touching.proofs.Leave.{Leaves, leave}
use Rattle.touching.proofs.Pairs.{Pair, InCore-same}
use Rattle.touching.proofs.Sides.{side_in, on_side}
use Rattle.touching.proofs.LineToLine.{lines_close, close_lines}
use Rattle.plane.specs.Plane.{PlanePoint, Bounds, In, Within, IsTight, grid_point, positive_product}
use Rattle.grid_num.proofs.Products.{mul_add, mul_sub}
use Rattle.plane.proofs.Points.{mul_mul, mul_swap}

-- the point that both have, as a pair
pub same_pair : (a : ℕ) (c d : Core) (p : PlanePoint) → InCore c p → InCore d p → Pair a c d
same_pair a c d p h g = record {
  p = p;
  q = p;
  same = refl;
  first = h;
  second = g;
  close = as_short a p.scale (pos 0) (pos 0) _ _ (omega (arith, ints)) (omega (arith, ints)) (omega (arith, ints));
}

-- on the way from p towards q, within reach of it, the place that is u parts p and v parts q is within reach of q
pub nearer : (a k j u v m : ℕ) (px qx py qy x y : ℤ) → k ≡ j → m ≡ u * k + v * j → x ≡ pos u *ℤ px +ℤ pos v *ℤ qx → y ≡ pos u *ℤ py +ℤ pos v *ℤ qy
    → IsShort a k (px -ℤ qx) (py -ℤ qy) → IsShort a m (x -ℤ pos (u + v) *ℤ qx) (y -ℤ pos (u + v) *ℤ qy)
nearer a k j u v m px qx py qy x y e em ex ey h =
    as_short a m _ _ _ _ (step px qx x ex) (step py qy y ey) (shrunk a k m u (px -ℤ qx) (py -ℤ qy) (omega (arith, em)) h)
  where
    step : (p q x : ℤ) → x ≡ pos u *ℤ p +ℤ pos v *ℤ q → (x -ℤ pos (u + v) *ℤ q) ≡ pos u *ℤ (p -ℤ q)
    step p q x e = omega (arith, ints, e, weigh u v q, mul_sub u p q)

-- a point times m
pub scaled_point : (m : ℕ) (q : PlanePoint) → 1 ≤ m → PlanePoint
scaled_point m q one = record {
  x = pos m *ℤ q.x;
  y = pos m *ℤ q.y;
  scale = m * q.scale;
  positive = positive_product m q.scale one q.positive;
}

pub InCore-scaled : (c : Core) (m : ℕ) (q : PlanePoint) (one : 1 ≤ m) → InCore c q → InCore c (scaled_point m q one)
unfolding scaled_point
InCore-scaled c m q one h =
    InCore-same c q (scaled_point m q one) (record { x = taken m q.scale q.x; y = taken m q.scale q.y }) h
  where
    taken : (m k : ℕ) (x : ℤ) → pos (m * k) *ℤ x ≡ pos k *ℤ (pos m *ℤ x)
    taken m k x = sym (mul_mul m k x) ∙ mul_swap m k x

-- where the way from a pair's first point to its second leaves an area: still within reach
pub left_pair : (a : ℕ) (b : Bounds) (d : Core) (h : Pair a (area b) d) → (l : Leaves b h.p h.q)
    → (c : Core) → InCore c l.at → Pair a c d
unfolding scaled_point
left_pair a b d h l c on = record {
  p = l.at;
  q = scaled_point (l.u + l.v) h.q (omega (arith, l.some));
  same = scales l.at.scale l.u l.v h.p.scale h.q.scale h.same l.scale;
  first = on;
  second = InCore-scaled d (l.u + l.v) h.q (omega (arith, l.some)) h.second;
  close = nearer a h.p.scale h.q.scale l.u l.v l.at.scale h.p.x h.q.x h.p.y h.q.y l.at.x l.at.y h.same l.scale l.x l.y h.close;
}
  where
    scales : (m u v k j : ℕ) → k ≡ j → m ≡ u * k + v * j → m ≡ (u + v) * j
    scales m u v k j e h = let g : m ≡ u * j + v * j = subst (λ (z : ℕ). m ≡ u * z + v * j) e h in omega (arith, g)

-- along one coordinate: the way from a point of a line to the line's start stays on the line
mean_on : (k i j u v m : ℕ) (q s t x : ℤ) → pos (i + j) *ℤ q ≡ pos k *ℤ (pos i *ℤ s +ℤ pos j *ℤ t) → m ≡ u * k + v * 1 → x ≡ pos u *ℤ q +ℤ pos v *ℤ s
    → pos ((u * k * i + v * (i + j)) + u * k * j) *ℤ x ≡ pos m *ℤ (pos (u * k * i + v * (i + j)) *ℤ s +ℤ pos (u * k * j) *ℤ t)
mean_on k i j u v m q s t x h em ex =
    ap (λ (z : ℕ). pos z *ℤ x) (whole m em) ∙ sym (mul_mul m (i + j) x) ∙ ap (λ (z : ℤ). pos m *ℤ z) (there ∙ sym weights)
  where
    whole : (m : ℕ) → m ≡ u * k + v * 1 → (u * k * i + v * (i + j)) + u * k * j ≡ m * (i + j)
    whole m e = rw e (omega arith)

    there : pos (i + j) *ℤ x ≡ pos (u * k) *ℤ (pos i *ℤ s +ℤ pos j *ℤ t) +ℤ pos v *ℤ (pos (i + j) *ℤ s)
    there = omega (
      arith,
      ints,
      ap (λ (z : ℤ). pos (i + j) *ℤ z) ex,
      mul_add (i + j) (pos u *ℤ q) (pos v *ℤ s),
      mul_swap (i + j) u q,
      ap (λ (z : ℤ). pos u *ℤ z) h,
      mul_mul u k (pos i *ℤ s +ℤ pos j *ℤ t),
      mul_swap (i + j) v s,
    )

    weights : (pos (u * k * i + v * (i + j)) *ℤ s +ℤ pos (u * k * j) *ℤ t) ≡ pos (u * k) *ℤ (pos i *ℤ s +ℤ pos j *ℤ t) +ℤ pos v *ℤ (pos (i + j) *ℤ s)
    weights = omega (
      arith,
      ints,
      weigh (u * k * i) (v * (i + j)) s,
      mul_mul (u * k) i s,
      mul_mul (u * k) j t,
      mul_add (u * k) (pos i *ℤ s) (pos j *ℤ t),
      mul_mul v (i + j) s,
    )

way_on : (b : Bounds) (s t : Spot) (q : PlanePoint) → OnLine s t q → (l : Leaves b q (grid_point s.x s.y)) → OnLine s t l.at
way_on b s t q on l = record {
  i = l.u * q.scale * on.i + l.v * (on.i + on.j);
  j = l.u * q.scale * on.j;
  some = some l.u q.scale l.v (on.i + on.j) on.i on.j l.some q.positive on.some refl;
  x = mean_on q.scale on.i on.j l.u l.v l.at.scale q.x s.x t.x l.at.x on.x l.scale l.x;
  y = mean_on q.scale on.i on.j l.u l.v l.at.scale q.y s.y t.y l.at.y on.y l.scale l.y;
}
  where
    some : (u k v n i j : ℕ) → 1 ≤ u → 1 ≤ k → 1 ≤ n → n ≡ i + j → 1 ≤ (u * k * i + v * n) + u * k * j
    some u k v n i j a b c e =
        let w = positive_product (u * k) (i + j) (positive_product u k a b) (omega (arith, e)) in
        omega (arith, w)

-- a point at the scale 1
at_one : (b : Bounds) (x y : ℤ) → In b (grid_point x y) → Within b x y
at_one b x y z = record {
  x_low = omega (arith, ints, z.x_low);
  x_high = omega (arith, ints, z.x_high);
  y_low = omega (arith, ints, z.y_low);
  y_high = omega (arith, ints, z.y_high);
  s_low = omega (arith, ints, z.s_low);
  s_high = omega (arith, ints, z.s_high);
  d_low = omega (arith, ints, z.d_low);
  d_high = omega (arith, ints, z.d_high);
}

pub once : (b : Bounds) (x y : ℤ) → Within b x y → In b (grid_point x y)
once b x y h = record {
  x_low = omega (arith, ints, h.x_low);
  x_high = omega (arith, ints, h.x_high);
  y_low = omega (arith, ints, h.y_low);
  y_high = omega (arith, ints, h.y_high);
  s_low = omega (arith, ints, h.s_low);
  s_high = omega (arith, ints, h.s_high);
  d_low = omega (arith, ints, h.d_low);
  d_high = omega (arith, ints, h.d_high);
}

-- the start of a line is on it
pub start_on : (s t : Spot) → OnLine s t (grid_point s.x s.y)
start_on s t = record { i = 1; j = 0; some = omega arith; x = first s.x t.x; y = first s.y t.y }
  where
    first : (a b : ℤ) → pos (1 + 0) *ℤ a ≡ pos 1 *ℤ (pos 1 *ℤ a +ℤ pos 0 *ℤ b)
    first a b = omega (arith, ints, zero-*ℤ b)

pub end_on : (s t : Spot) → OnLine s t (grid_point t.x t.y)
end_on s t = record { i = 0; j = 1; some = omega arith; x = last s.x t.x; y = last s.y t.y }
  where
    last : (a b : ℤ) → pos (0 + 1) *ℤ b ≡ pos 1 *ℤ (pos 0 *ℤ a +ℤ pos 1 *ℤ b)
    last a b = omega (arith, ints, zero-*ℤ a)

-- an area and a line with a common point
met_close : (a : ℕ) (b : Bounds) (s t : Spot) (q : PlanePoint) → In b q → OnLine s t q → IsAreaClose a b s t
unfolding IsAreaClose InCore
met_close a b s t q h on =
    ⊎_elim {C = IsAreaClose a b s t} (λ z. inl (at_one b s.x s.y z))
    (λ (l : Leaves b q (grid_point s.x s.y)).
    let k = on_side b l.at l.inside l.on in
    inr (
      k.0,
      lines_close a (start_of b k.0) (end_of b k.0) s t
          (same_pair a (line (start_of b k.0) (end_of b k.0)) (line s t) l.at k.1 (way_on b s t q on l)),
    ))
    (leave b q (grid_point s.x s.y) h)

pub area_close : (a : ℕ) (b : Bounds) (s t : Spot) → Pair a (area b) (line s t) → IsAreaClose a b s t
unfolding IsAreaClose InCore
area_close a b s t h =
    ⊎_elim {C = IsAreaClose a b s t} (λ z. met_close a b s t h.q z h.second)
    (λ (l : Leaves b h.p h.q).
    let k = on_side b l.at l.inside l.on in
    inr (
      k.0,
      lines_close a (start_of b k.0) (end_of b k.0) s t
          (left_pair a b (line s t) h l (line (start_of b k.0) (end_of b k.0)) k.1),
    ))
    (leave b h.p h.q h.first)

pub close_area : (a : ℕ) (b : Bounds) (s t : Spot) → IsTight b → IsAreaClose a b s t → Pair a (area b) (line s t)
unfolding IsAreaClose InCore
close_area a b s t tight (inl h) = same_pair a (area b) (line s t) (grid_point s.x s.y) (once b s.x s.y h) (start_on s t)
close_area a b s t tight (inr h) =
    let p = close_lines a (start_of b h.0) (end_of b h.0) s t h.1 in
    record { p = p.p; q = p.q; same = p.same; first = side_in b h.0 p.p tight p.first; second = p.second; close = p.close }
