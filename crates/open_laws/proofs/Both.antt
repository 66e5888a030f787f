-- A point strictly in the one and in the other, moved towards a point strictly inside the other.
use Rattle.std.proofs.Common.{◌≡◌, ◌∙◌, sym, ap, ℕ, suc, ◌+◌, ◌*◌, ◌≤◌, arith}
use Rattle.std.specs.Prelude.{ℤ, pos, ◌+ℤ◌, ◌-ℤ◌, ◌*ℤ◌, ◌≤ℤ◌, ◌<ℤ◌}
use Rattle.std.specs.Int.RustNames.{unsigned_abs}
use Rattle.std.proofs.lemmas.Int.{ints}
use Rattle.plane.specs.Plane.{PlanePoint, Bounds, In, StrictlyIn, positive_product}
use Rattle.grid_num.proofs.Products.{mul_suc, mul_add, mul_sub, mul_le, mul_lt}
use Rattle.plane.proofs.Points.{mul_mul, mul_swap}
use Rattle.plane.proofs.Near.{StrictlyIn-In}
use Rattle.open_laws.specs.Open.{ReachesInto, AreOverlapping}
use Rattle.open_laws.specs.Laws.{OpenLaw}

-- m parts of x at scale j and one of z at scale k
abbrev pub mixed : ℕ → ℕ → ℕ → ℤ → ℤ → ℤ
mixed m j k x z = pos m *ℤ (pos k *ℤ x) +ℤ pos j *ℤ z

scale_is : (m n : ℕ) (c : ℤ) → pos (suc m * n) *ℤ c ≡ pos m *ℤ (pos n *ℤ c) +ℤ pos n *ℤ c
scale_is m n c = sym (mul_mul (suc m) n c) ∙ mul_suc m (pos n *ℤ c)

-- on the side of x, a bound that z meets strictly
low_near : (m j k : ℕ) (c x z : ℤ) → 1 ≤ j → (pos j *ℤ c) ≤ℤ x → (pos k *ℤ c) <ℤ z → (pos (suc m * (j * k)) *ℤ c) <ℤ mixed m j k x z
low_near m j k c x z one h l =
    omega (
      arith,
      ints,
      scale_is m (j * k) c,
      mul_mul j k c,
      mul_swap j k c,
      mul_le m (pos k *ℤ (pos j *ℤ c)) (pos k *ℤ x) (mul_le k (pos j *ℤ c) x h),
      mul_lt j (pos k *ℤ c) z one l,
      ap (λ (w : ℤ). pos m *ℤ w) (sym (mul_mul j k c) ∙ mul_swap j k c),
    )

high_near : (m j k : ℕ) (c x z : ℤ) → 1 ≤ j → x ≤ℤ (pos j *ℤ c) → z <ℤ (pos k *ℤ c) → mixed m j k x z <ℤ (pos (suc m * (j * k)) *ℤ c)
high_near m j k c x z one h l =
    omega (
      arith,
      ints,
      scale_is m (j * k) c,
      mul_mul j k c,
      mul_swap j k c,
      mul_le m (pos k *ℤ x) (pos k *ℤ (pos j *ℤ c)) (mul_le k x (pos j *ℤ c) h),
      mul_lt j z (pos k *ℤ c) one l,
      ap (λ (w : ℤ). pos m *ℤ w) (sym (mul_mul j k c) ∙ mul_swap j k c),
    )

-- and a bound that x meets strictly, whatever z is: m is large
one_more : (m : ℕ) → pos m *ℤ pos 1 ≡ pos m
one_more m = omega (arith, ints)

beyond : (k : ℕ) (a x : ℤ) → 1 ≤ k → a <ℤ x → (pos k *ℤ a +ℤ pos 1) ≤ℤ (pos k *ℤ x)
beyond k a x one h = omega (arith, ints, mul_lt k a x one h)

low_far : (m j k : ℕ) (b x z : ℤ) → 1 ≤ k → (pos j *ℤ b) <ℤ x → (pos (j * k) *ℤ b -ℤ pos j *ℤ z) <ℤ pos m → (pos (suc m * (j * k)) *ℤ b) <ℤ mixed m j k x z
low_far m j k b x z one h l =
    let n : ℤ = pos k *ℤ (pos j *ℤ b) in
    let e : pos (j * k) *ℤ b ≡ n = sym (mul_mul j k b) ∙ mul_swap j k b in
    omega (arith, ints, e, scale_is m (j * k) b, ap (λ (w : ℤ). pos m *ℤ w) e, mul_le m (n +ℤ pos 1) (pos k *ℤ x) (beyond k (pos j *ℤ b) x one h), mul_add m n (pos 1), one_more m)

high_far : (m j k : ℕ) (b x z : ℤ) → 1 ≤ k → x <ℤ (pos j *ℤ b) → (pos j *ℤ z -ℤ pos (j * k) *ℤ b) <ℤ pos m → mixed m j k x z <ℤ (pos (suc m * (j * k)) *ℤ b)
high_far m j k b x z one h l =
    let n : ℤ = pos k *ℤ (pos j *ℤ b) in
    let e : pos (j * k) *ℤ b ≡ n = sym (mul_mul j k b) ∙ mul_swap j k b in
    let f : (pos k *ℤ x +ℤ pos 1) ≤ℤ n = beyond k x (pos j *ℤ b) one h in
    omega (arith, ints, e, scale_is m (j * k) b, ap (λ (w : ℤ). pos m *ℤ w) e, mul_le m (pos k *ℤ x +ℤ pos 1) n f, mul_add m (pos k *ℤ x) (pos 1), one_more m)

mixed_add : (m j k : ℕ) (x y u v : ℤ) → mixed m j k x u +ℤ mixed m j k y v ≡ mixed m j k (x +ℤ y) (u +ℤ v)
mixed_add m j k x y u v =
    let e : pos k *ℤ (x +ℤ y) ≡ pos k *ℤ x +ℤ pos k *ℤ y = mul_add k x y in
    omega (arith, ints, ap (λ (w : ℤ). pos m *ℤ w) e, mul_add m (pos k *ℤ x) (pos k *ℤ y), mul_add j u v)

mixed_sub : (m j k : ℕ) (x y u v : ℤ) → mixed m j k x u -ℤ mixed m j k y v ≡ mixed m j k (x -ℤ y) (u -ℤ v)
mixed_sub m j k x y u v =
    let e : pos k *ℤ (x -ℤ y) ≡ pos k *ℤ x -ℤ pos k *ℤ y = mul_sub k x y in
    omega (arith, ints, ap (λ (w : ℤ). pos m *ℤ w) e, mul_sub m (pos k *ℤ x) (pos k *ℤ y), mul_sub j u v)

-- ---- a number above eight others
above : (a : ℤ) → (m : ℕ) × (a <ℤ pos m)
above a = (unsigned_abs a + 1, omega (arith, ints))

abbrev low_gap : ℕ → ℕ → ℤ → ℤ → ℤ
low_gap j k b z = pos (j * k) *ℤ b -ℤ pos j *ℤ z

abbrev high_gap : ℕ → ℕ → ℤ → ℤ → ℤ
high_gap j k b z = pos j *ℤ z -ℤ pos (j * k) *ℤ b

record IsFar (m j k : ℕ) (b : Bounds) (x y : ℤ) : Type 0 where
  x0 : low_gap j k b.x0 x <ℤ pos m
  x1 : high_gap j k b.x1 x <ℤ pos m
  y0 : low_gap j k b.y0 y <ℤ pos m
  y1 : high_gap j k b.y1 y <ℤ pos m
  s0 : low_gap j k b.s0 (x +ℤ y) <ℤ pos m
  s1 : high_gap j k b.s1 (x +ℤ y) <ℤ pos m
  d0 : low_gap j k b.d0 (x -ℤ y) <ℤ pos m
  d1 : high_gap j k b.d1 (x -ℤ y) <ℤ pos m

raised : (a : ℤ) (m n : ℕ) → a <ℤ pos m → m ≤ n → a <ℤ pos n
raised a m n h l = omega (arith, ints)

far : (j k : ℕ) (b : Bounds) (x y : ℤ) → (m : ℕ) × IsFar m j k b x y
far j k b x y =
    let x0 = above (low_gap j k b.x0 x) in
    let x1 = above (high_gap j k b.x1 x) in
    let y0 = above (low_gap j k b.y0 y) in
    let y1 = above (high_gap j k b.y1 y) in
    let s0 = above (low_gap j k b.s0 (x +ℤ y)) in
    let s1 = above (high_gap j k b.s1 (x +ℤ y)) in
    let d0 = above (low_gap j k b.d0 (x -ℤ y)) in
    let d1 = above (high_gap j k b.d1 (x -ℤ y)) in
    let m = x0.0 + x1.0 + (y0.0 + y1.0) + (s0.0 + s1.0 + (d0.0 + d1.0)) in (
      m,
      record {
        x0 = raised _ x0.0 m x0.1 (eight1 x0.0 x1.0 y0.0 y1.0 s0.0 s1.0 d0.0 d1.0);
        x1 = raised _ x1.0 m x1.1 (eight2 x0.0 x1.0 y0.0 y1.0 s0.0 s1.0 d0.0 d1.0);
        y0 = raised _ y0.0 m y0.1 (eight3 x0.0 x1.0 y0.0 y1.0 s0.0 s1.0 d0.0 d1.0);
        y1 = raised _ y1.0 m y1.1 (eight4 x0.0 x1.0 y0.0 y1.0 s0.0 s1.0 d0.0 d1.0);
        s0 = raised _ s0.0 m s0.1 (eight5 x0.0 x1.0 y0.0 y1.0 s0.0 s1.0 d0.0 d1.0);
        s1 = raised _ s1.0 m s1.1 (eight6 x0.0 x1.0 y0.0 y1.0 s0.0 s1.0 d0.0 d1.0);
        d0 = raised _ d0.0 m d0.1 (eight7 x0.0 x1.0 y0.0 y1.0 s0.0 s1.0 d0.0 d1.0);
        d1 = raised _ d1.0 m d1.1 (eight8 x0.0 x1.0 y0.0 y1.0 s0.0 s1.0 d0.0 d1.0);
      },
    )
  where
    eight1 : (a b c d e f g h : ℕ) → a ≤ a + b + (c + d) + (e + f + (g + h))
    eight1 a b c d e f g h = omega arith

    eight2 : (a b c d e f g h : ℕ) → b ≤ a + b + (c + d) + (e + f + (g + h))
    eight2 a b c d e f g h = omega arith

    eight3 : (a b c d e f g h : ℕ) → c ≤ a + b + (c + d) + (e + f + (g + h))
    eight3 a b c d e f g h = omega arith

    eight4 : (a b c d e f g h : ℕ) → d ≤ a + b + (c + d) + (e + f + (g + h))
    eight4 a b c d e f g h = omega arith

    eight5 : (a b c d e f g h : ℕ) → e ≤ a + b + (c + d) + (e + f + (g + h))
    eight5 a b c d e f g h = omega arith

    eight6 : (a b c d e f g h : ℕ) → f ≤ a + b + (c + d) + (e + f + (g + h))
    eight6 a b c d e f g h = omega arith

    eight7 : (a b c d e f g h : ℕ) → g ≤ a + b + (c + d) + (e + f + (g + h))
    eight7 a b c d e f g h = omega arith

    eight8 : (a b c d e f g h : ℕ) → h ≤ a + b + (c + d) + (e + f + (g + h))
    eight8 a b c d e f g h = omega arith

-- ---- the point
mixed_point : ℕ → PlanePoint → PlanePoint → PlanePoint
mixed_point m p z =
    record {
      x = mixed m p.scale z.scale p.x z.x;
      y = mixed m p.scale z.scale p.y z.y;
      scale = suc m * (p.scale * z.scale);
      positive = positive_product (suc m) (p.scale * z.scale) (omega arith) (positive_product p.scale z.scale p.positive z.positive);
    }

near_in : (m : ℕ) (c : Bounds) (p z : PlanePoint) → In c p → StrictlyIn c z → StrictlyIn c (mixed_point m p z)
unfolding mixed_point
near_in m c p z h w =
    let j = p.scale in
    let k = z.scale in
    let s = mixed_add m j k p.x p.y z.x z.y in
    let d = mixed_sub m j k p.x p.y z.x z.y in
    record {
      x_low = low_near m j k c.x0 p.x z.x p.positive h.x_low w.x_low;
      x_high = high_near m j k c.x1 p.x z.x p.positive h.x_high w.x_high;
      y_low = low_near m j k c.y0 p.y z.y p.positive h.y_low w.y_low;
      y_high = high_near m j k c.y1 p.y z.y p.positive h.y_high w.y_high;
      s_low = rw s (low_near m j k c.s0 (p.x +ℤ p.y) (z.x +ℤ z.y) p.positive h.s_low w.s_low);
      s_high = rw s (high_near m j k c.s1 (p.x +ℤ p.y) (z.x +ℤ z.y) p.positive h.s_high w.s_high);
      d_low = rw d (low_near m j k c.d0 (p.x -ℤ p.y) (z.x -ℤ z.y) p.positive h.d_low w.d_low);
      d_high = rw d (high_near m j k c.d1 (p.x -ℤ p.y) (z.x -ℤ z.y) p.positive h.d_high w.d_high);
    }

far_in : (m : ℕ) (b : Bounds) (p z : PlanePoint) → StrictlyIn b p → IsFar m p.scale z.scale b z.x z.y → StrictlyIn b (mixed_point m p z)
unfolding mixed_point
far_in m b p z h f =
    let j = p.scale in
    let k = z.scale in
    let s = mixed_add m j k p.x p.y z.x z.y in
    let d = mixed_sub m j k p.x p.y z.x z.y in
    record {
      x_low = low_far m j k b.x0 p.x z.x z.positive h.x_low f.x0;
      x_high = high_far m j k b.x1 p.x z.x z.positive h.x_high f.x1;
      y_low = low_far m j k b.y0 p.y z.y z.positive h.y_low f.y0;
      y_high = high_far m j k b.y1 p.y z.y z.positive h.y_high f.y1;
      s_low = rw s (low_far m j k b.s0 (p.x +ℤ p.y) (z.x +ℤ z.y) z.positive h.s_low f.s0);
      s_high = rw s (high_far m j k b.s1 (p.x +ℤ p.y) (z.x +ℤ z.y) z.positive h.s_high f.s1);
      d_low = rw d (low_far m j k b.d0 (p.x -ℤ p.y) (z.x -ℤ z.y) z.positive h.d_low f.d0);
      d_high = rw d (high_far m j k b.d1 (p.x -ℤ p.y) (z.x -ℤ z.y) z.positive h.d_high f.d1);
    }

pub open_both : OpenLaw
unfolding ReachesInto AreOverlapping
open_both b c z i = (
  λ e. let m = far e.0.scale z.scale b z.x z.y in (mixed_point m.0 e.0 z, far_in m.0 b e.0 z e.1 m.1, near_in m.0 c e.0 z e.2 i),
  λ o. (o.0, o.1, StrictlyIn-In c o.0 o.2),
)
