-- The inside of a rectangle and an octagon.
use Rattle.std.proofs.Common.{◌≡◌, sym, subst, ℕ, ◌*◌, arith}
use Rattle.std.specs.Prelude.{ℤ, pos, neg_ℤ, ◌+ℤ◌, ◌-ℤ◌, ◌*ℤ◌, ◌≤ℤ◌, ◌<ℤ◌, ◌↔◌}
use Rattle.std.proofs.lemmas.Int.{ints}
use Rattle.plane.specs.Plane.{Bounds, Within, StrictlyWithin, times, StrictlyIn, IsTight, AreNear, ball_of, sum_of, box_of, positive_product}
use Rattle.grid_num.proofs.Products.{mul_lt_back}
use Rattle.plane.proofs.Times.{IsTight-times}
use Rattle.plane.proofs.Points.{mul_mul, mul_swap}
use Rattle.grid_num.specs.Roots.{up2_of}
use Rattle.grid_num.proofs.Roots.{up2_le_double, lt_up2}
use Rattle.plane.proofs.Near.{AreNear-sym}
use Rattle.plane.proofs.Equal.{equal}
use Rattle.plane.proofs.Tight.{top_left_x, same_points}
use Rattle.plane.proofs.Moved.{tight_box_law}
use Rattle.octagon.proofs.Separation.{separation_law}
use Rattle.open_laws.specs.Open.{ReachesInto}
use Rattle.open_laws.specs.Laws.{OpenBoxLaw}

-- the rectangle of the inner grid points
abbrev shrunk : ℤ → ℤ → ℤ → ℤ → Bounds
shrunk x0 x1 y0 y1 = box_of (x0 +ℤ pos 1) (x1 -ℤ pos 1) (y0 +ℤ pos 1) (y1 -ℤ pos 1)

shrunk_there : (x0 x1 y0 y1 x y : ℤ) → StrictlyWithin (box_of x0 x1 y0 y1) x y → Within (shrunk x0 x1 y0 y1) x y
shrunk_there x0 x1 y0 y1 x y w = record {
  x_low = omega (arith, ints);
  x_high = omega (arith, ints);
  y_low = omega (arith, ints);
  y_high = omega (arith, ints);
  s_low = omega (arith, ints);
  s_high = omega (arith, ints);
  d_low = omega (arith, ints);
  d_high = omega (arith, ints);
}

shrunk_back : (x0 x1 y0 y1 x y : ℤ) → Within (shrunk x0 x1 y0 y1) x y → StrictlyWithin (box_of x0 x1 y0 y1) x y
shrunk_back x0 x1 y0 y1 x y w = record {
  x_low = omega (arith, ints);
  x_high = omega (arith, ints);
  y_low = omega (arith, ints);
  y_high = omega (arith, ints);
  s_low = omega (arith, ints);
  s_high = omega (arith, ints);
  d_low = omega (arith, ints);
  d_high = omega (arith, ints);
}

inner_is : (x0 x1 y0 y1 : ℤ) (inner : Bounds) → IsTight inner
    → ((x y : ℤ) → Within inner x y ↔ StrictlyWithin (box_of x0 x1 y0 y1) x y) → inner ≡ shrunk x0 x1 y0 y1
inner_is x0 x1 y0 y1 inner t s =
    let w = (s inner.x0 (inner.s0 -ℤ inner.x0)).0 (top_left_x inner t) in
    same_points inner (shrunk x0 x1 y0 y1) t (tight_box_law _ _ _ _ (gap x0 x1 inner.x0 w.x_low w.x_high) (gap y0 y1 (inner.s0 -ℤ inner.x0) w.y_low w.y_high))
    (λ x y. (λ i. shrunk_there x0 x1 y0 y1 x y ((s x y).0 i), λ i. (s x y).1 (shrunk_back x0 x1 y0 y1 x y i)))
  where
    gap : (a c z : ℤ) → a <ℤ z → z <ℤ c → (a +ℤ pos 1) ≤ℤ (c -ℤ pos 1)
    gap a c z h l = omega (arith, ints)

-- and with the ball of 1 it is the rectangle again
regrown : (x0 x1 y0 y1 u : ℤ) → u ≡ pos 2
    → sum_of (shrunk x0 x1 y0 y1) (record { x0 = neg_ℤ (pos 1); x1 = pos 1; y0 = neg_ℤ (pos 1); y1 = pos 1; s0 = neg_ℤ u; s1 = u; d0 = neg_ℤ u; d1 = u }) ≡ box_of x0 x1 y0 y1
regrown x0 x1 y0 y1 u e = equal _ (box_of x0 x1 y0 y1) (record {
  x0 = omega (arith, ints);
  x1 = omega (arith, ints);
  y0 = omega (arith, ints);
  y1 = omega (arith, ints);
  s0 = omega (arith, ints);
  s1 = omega (arith, ints);
  d0 = omega (arith, ints);
  d1 = omega (arith, ints);
})

up2_one : pos (up2_of 1) ≡ pos 2
up2_one = omega (arith, ints, up2_le_double 1, lt_up2 1 (omega arith))

shrunk_plus : (x0 x1 y0 y1 : ℤ) → sum_of (shrunk x0 x1 y0 y1) (ball_of 1) ≡ box_of x0 x1 y0 y1
unfolding ball_of
shrunk_plus x0 x1 y0 y1 = regrown x0 x1 y0 y1 (pos (up2_of 1)) up2_one

opened_box : (x0 x1 y0 y1 : ℤ) (inner o : Bounds) → IsTight inner
    → ((x y : ℤ) → Within inner x y ↔ StrictlyWithin (box_of x0 x1 y0 y1) x y) → IsTight o
    → ReachesInto (box_of x0 x1 y0 y1) o ↔ AreNear 1 inner o
unfolding ReachesInto
opened_box x0 x1 y0 y1 inner o t s u =
    let e : sum_of inner (ball_of 1) ≡ box_of x0 x1 y0 y1 = subst (λ (c : Bounds). sum_of c (ball_of 1) ≡ box_of x0 x1 y0 y1) (sym (inner_is x0 x1 y0 y1 inner t s)) (shrunk_plus x0 x1 y0 y1) in
    let r = separation_law 1 o inner (omega arith) u t in (
      λ i. AreNear-sym 1 o inner (r.1 (i.0, i.2, subst (λ (c : Bounds). StrictlyIn c i.0) (sym e) i.1)),
      λ n. let w = r.0 (AreNear-sym 1 inner o n) in (w.0, subst (λ (c : Bounds). StrictlyIn c w.0) e w.2, w.1),
    )

-- ---- in half the unit
half_strictly : (k : ℕ) (b : Bounds) (x y : ℤ) → StrictlyWithin (times k b) x y → StrictlyWithin (times k (times 2 b)) (pos 2 *ℤ x) (pos 2 *ℤ y)
half_strictly k b x y w = record {
  x_low = omega (arith, ints, mul_swap k 2 b.x0, w.x_low);
  x_high = omega (arith, ints, mul_swap k 2 b.x1, w.x_high);
  y_low = omega (arith, ints, mul_swap k 2 b.y0, w.y_low);
  y_high = omega (arith, ints, mul_swap k 2 b.y1, w.y_high);
  s_low = omega (arith, ints, mul_swap k 2 b.s0, w.s_low);
  s_high = omega (arith, ints, mul_swap k 2 b.s1, w.s_high);
  d_low = omega (arith, ints, mul_swap k 2 b.d0, w.d_low);
  d_high = omega (arith, ints, mul_swap k 2 b.d1, w.d_high);
}

half_in : (k : ℕ) (b : Bounds) (x y : ℤ) → Within (times k b) x y → Within (times k (times 2 b)) (pos 2 *ℤ x) (pos 2 *ℤ y)
half_in k b x y w = record {
  x_low = omega (arith, ints, mul_swap k 2 b.x0, w.x_low);
  x_high = omega (arith, ints, mul_swap k 2 b.x1, w.x_high);
  y_low = omega (arith, ints, mul_swap k 2 b.y0, w.y_low);
  y_high = omega (arith, ints, mul_swap k 2 b.y1, w.y_high);
  s_low = omega (arith, ints, mul_swap k 2 b.s0, w.s_low);
  s_high = omega (arith, ints, mul_swap k 2 b.s1, w.s_high);
  d_low = omega (arith, ints, mul_swap k 2 b.d0, w.d_low);
  d_high = omega (arith, ints, mul_swap k 2 b.d1, w.d_high);
}

whole_strictly : (k : ℕ) (b : Bounds) (x y : ℤ) → StrictlyWithin (times k (times 2 b)) x y → StrictlyWithin (times (k * 2) b) x y
whole_strictly k b x y w = record {
  x_low = omega (arith, ints, mul_mul k 2 b.x0, w.x_low);
  x_high = omega (arith, ints, mul_mul k 2 b.x1, w.x_high);
  y_low = omega (arith, ints, mul_mul k 2 b.y0, w.y_low);
  y_high = omega (arith, ints, mul_mul k 2 b.y1, w.y_high);
  s_low = omega (arith, ints, mul_mul k 2 b.s0, w.s_low);
  s_high = omega (arith, ints, mul_mul k 2 b.s1, w.s_high);
  d_low = omega (arith, ints, mul_mul k 2 b.d0, w.d_low);
  d_high = omega (arith, ints, mul_mul k 2 b.d1, w.d_high);
}

whole_in : (k : ℕ) (b : Bounds) (x y : ℤ) → Within (times k (times 2 b)) x y → Within (times (k * 2) b) x y
whole_in k b x y w = record {
  x_low = omega (arith, ints, mul_mul k 2 b.x0, w.x_low);
  x_high = omega (arith, ints, mul_mul k 2 b.x1, w.x_high);
  y_low = omega (arith, ints, mul_mul k 2 b.y0, w.y_low);
  y_high = omega (arith, ints, mul_mul k 2 b.y1, w.y_high);
  s_low = omega (arith, ints, mul_mul k 2 b.s0, w.s_low);
  s_high = omega (arith, ints, mul_mul k 2 b.s1, w.s_high);
  d_low = omega (arith, ints, mul_mul k 2 b.d0, w.d_low);
  d_high = omega (arith, ints, mul_mul k 2 b.d1, w.d_high);
}

finer : (b c : Bounds) → ReachesInto (times 2 b) (times 2 c) ↔ ReachesInto b c
unfolding ReachesInto
finer b c = (
  λ i. (
    record { x = i.0.x; y = i.0.y; scale = i.0.scale * 2; positive = positive_product i.0.scale 2 i.0.positive (omega arith) },
    whole_strictly i.0.scale b i.0.x i.0.y i.1,
    whole_in i.0.scale c i.0.x i.0.y i.2,
  ),
  λ i. (
    record { x = pos 2 *ℤ i.0.x; y = pos 2 *ℤ i.0.y; scale = i.0.scale; positive = i.0.positive },
    half_strictly i.0.scale b i.0.x i.0.y i.1,
    half_in i.0.scale c i.0.x i.0.y i.2,
  ),
)

doubled_box : (x0 x1 y0 y1 : ℤ) → times 2 (box_of x0 x1 y0 y1) ≡ box_of (pos 2 *ℤ x0) (pos 2 *ℤ x1) (pos 2 *ℤ y0) (pos 2 *ℤ y1)
doubled_box x0 x1 y0 y1 = equal (times 2 (box_of x0 x1 y0 y1)) (box_of (pos 2 *ℤ x0) (pos 2 *ℤ x1) (pos 2 *ℤ y0) (pos 2 *ℤ y1)) (record {
  x0 = omega (arith, ints);
  x1 = omega (arith, ints);
  y0 = omega (arith, ints);
  y1 = omega (arith, ints);
  s0 = omega (arith, ints);
  s1 = omega (arith, ints);
  d0 = omega (arith, ints);
  d1 = omega (arith, ints);
})

halved_box : (x0 x1 y0 y1 : ℤ) (inner o : Bounds) → IsTight inner
    → ((x y : ℤ) → Within inner x y ↔ StrictlyWithin (box_of (pos 2 *ℤ x0) (pos 2 *ℤ x1) (pos 2 *ℤ y0) (pos 2 *ℤ y1)) x y) → IsTight o
    → ReachesInto (box_of x0 x1 y0 y1) o ↔ AreNear 1 inner (times 2 o)
halved_box x0 x1 y0 y1 inner o t s u =
    let r = opened_box (pos 2 *ℤ x0) (pos 2 *ℤ x1) (pos 2 *ℤ y0) (pos 2 *ℤ y1) inner (times 2 o) t s (IsTight-times 2 o u) in
    let f = finer (box_of x0 x1 y0 y1) o in
    let e = doubled_box x0 x1 y0 y1 in (
      λ i. r.0 (subst (λ (c : Bounds). ReachesInto c (times 2 o)) e (f.1 i)),
      λ n. f.0 (subst (λ (c : Bounds). ReachesInto c (times 2 o)) (sym e) (r.1 n)),
    )

-- ---- where no point is strictly in the rectangle
flat_box : (x0 x1 y0 y1 : ℤ) (o : Bounds)
    → ((x y : ℤ) → StrictlyWithin (box_of (pos 2 *ℤ x0) (pos 2 *ℤ x1) (pos 2 *ℤ y0) (pos 2 *ℤ y1)) x y → ⊥)
    → ReachesInto (box_of x0 x1 y0 y1) o → ⊥
unfolding ReachesInto
flat_box x0 x1 y0 y1 o n i =
    let p = i.0 in
    let k = p.scale in
    n (pos 2 *ℤ x0 +ℤ pos 1) (pos 2 *ℤ y0 +ℤ pos 1)
    (centre x0 x1 y0 y1 (crossed k x0 x1 p.x i.1.x_low i.1.x_high) (crossed k y0 y1 p.y i.1.y_low i.1.y_high))
  where
    crossed : (k : ℕ) (a c x : ℤ) → (pos k *ℤ a) <ℤ x → x <ℤ (pos k *ℤ c) → a <ℤ c
    crossed k a c x l h = mul_lt_back k a c (omega (arith, ints))

    centre : (x0 x1 y0 y1 : ℤ) → x0 <ℤ x1 → y0 <ℤ y1
        → StrictlyWithin (box_of (pos 2 *ℤ x0) (pos 2 *ℤ x1) (pos 2 *ℤ y0) (pos 2 *ℤ y1)) (pos 2 *ℤ x0 +ℤ pos 1) (pos 2 *ℤ y0 +ℤ pos 1)
    centre x0 x1 y0 y1 h l = record {
      x_low = omega (arith, ints);
      x_high = omega (arith, ints);
      y_low = omega (arith, ints);
      y_high = omega (arith, ints);
      s_low = omega (arith, ints);
      s_high = omega (arith, ints);
      d_low = omega (arith, ints);
      d_high = omega (arith, ints);
    }

pub open_box : OpenBoxLaw
open_box = record { opened = opened_box; halved = halved_box; flat = flat_box }
