-- A point between two places is in each octagon that holds them; and so it is in that of its piece of a cut segment.
use Rattle.std.proofs.Common.{◌≡◌, ap, ℕ, zero, suc, ◌+◌, ◌*◌, ◌-◌, ◌/◌, ◌%◌, ◌≤◌, ◌<◌, inl, inr, arith, mul_comm}
use Rattle.std.specs.Prelude.{ℤ, pos, ◌+ℤ◌, ◌-ℤ◌, ◌*ℤ◌, ◌≤ℤ◌}
use Rattle.std.proofs.lemmas.Int.{ints}
use Rattle.std.proofs.lemmas.Bool.{cases_lt}
use Rattle.std.proofs.lemmas.Nat.{mod_below}
use Rattle.std.proofs.Math.Nat.{div-add-mod, mul-le-mul_right, mul-le-mul_left, mul-add, add-mul}
use lib.IntN.{zero-*ℤ}
use Rattle.plane.specs.Plane.{Bounds, Within, times}
use Rattle.grid_num.proofs.Products.{mul_suc, mul_le, mul_add, mul_sub, mul_le_back}
use Rattle.plane.proofs.Points.{mul_mul}

pub weigh : (i j : ℕ) (c : ℤ) → pos (i + j) *ℤ c ≡ pos i *ℤ c +ℤ pos j *ℤ c
weigh zero j c = omega (arith, ints, zero-*ℤ c)
weigh (suc i) j c = omega (arith, ints, mul_suc i c, mul_suc (i + j) c, weigh i j c)

low : (i j : ℕ) (c a b : ℤ) → c ≤ℤ a → c ≤ℤ b → (pos (i + j) *ℤ c) ≤ℤ (pos i *ℤ a +ℤ pos j *ℤ b)
low i j c a b h k = omega (arith, ints, weigh i j c, mul_le i c a h, mul_le j c b k)

high : (i j : ℕ) (c a b : ℤ) → a ≤ℤ c → b ≤ℤ c → (pos i *ℤ a +ℤ pos j *ℤ b) ≤ℤ (pos (i + j) *ℤ c)
high i j c a b h k = omega (arith, ints, weigh i j c, mul_le i a c h, mul_le j b c k)

-- bounds of both ends hold for their means
pub mean_in : (o : Bounds) (sx sy tx ty : ℤ) (i j : ℕ) → Within o sx sy → Within o tx ty
    → Within (times (i + j) o) (pos i *ℤ sx +ℤ pos j *ℤ tx) (pos i *ℤ sy +ℤ pos j *ℤ ty)
mean_in o sx sy tx ty i j h k = record {
  x_low = low i j o.x0 sx tx h.x_low k.x_low;
  x_high = high i j o.x1 sx tx h.x_high k.x_high;
  y_low = low i j o.y0 sy ty h.y_low k.y_low;
  y_high = high i j o.y1 sy ty h.y_high k.y_high;
  s_low = omega (arith, ints, low i j o.s0 (sx +ℤ sy) (tx +ℤ ty) h.s_low k.s_low, mul_add i sx sy, mul_add j tx ty);
  s_high = omega (arith, ints, high i j o.s1 (sx +ℤ sy) (tx +ℤ ty) h.s_high k.s_high, mul_add i sx sy, mul_add j tx ty);
  d_low = omega (arith, ints, low i j o.d0 (sx -ℤ sy) (tx -ℤ ty) h.d_low k.d_low, mul_sub i sx sy, mul_sub j tx ty);
  d_high = omega (arith, ints, high i j o.d1 (sx -ℤ sy) (tx -ℤ ty) h.d_high k.d_high, mul_sub i sx sy, mul_sub j tx ty);
}

-- ---- the piece of a point
-- Of k pieces the point that is j of w parts along the segment is on the one behind c pieces, a of w parts along it.
pub record IsPiece (k w j : ℕ) : Type 0 where
  pub c : ℕ
  pub m : ℕ
  pub a : ℕ
  pub b : ℕ
  pub count : k ≡ m + 1 + c
  pub place : k * j ≡ c * w + a
  pub parts : b + a ≡ w

pub piece_of : (k w j : ℕ) → 1 ≤ k → 1 ≤ w → j ≤ w → IsPiece k w j
piece_of k w j some one le = elim (cases_lt j w) [
  | inr l ↦ last k w j some le l
  | inl l ↦ inner k w j (k * j / w) (k * j % w) some l (div-add-mod (k * j) w) (mod_below (k * j) w (omega arith))
]
  where
    last : (k w j : ℕ) → 1 ≤ k → j ≤ w → w ≤ j → IsPiece k w j
    last zero w j some le l = absurd (omega arith)
    last (suc k) w j some le l =
        let same : j ≡ w = omega arith in
        record { c = k; m = 0; a = w; b = 0; count = omega arith; place = omega (arith, ap (λ (z : ℕ). suc k * z) same); parts = omega arith }

    inner : (k w j c a : ℕ) → 1 ≤ k → j < w → w * c + a ≡ k * j → a < w → IsPiece k w j
    inner k w j c a some l e f = elim (cases_lt c k) [
      | inl g ↦ record { c = c; m = k - (c + 1); a = a; b = w - a; count = omega arith; place = omega arith; parts = omega arith }
      | inr g ↦ let p : k * w ≤ c * w = mul-le-mul_right w g in let q : k * (j + 1) ≤ k * w = mul-le-mul_left k (omega arith) in absurd (omega arith)
    ]

weights : (i j m c a b : ℕ) → (m + 1 + c) * j ≡ c * (i + j) + a → b + a ≡ i + j
    → (b * (m + 1) + a * m ≡ (m + 1 + c) * i) × (b * c + a * (c + 1) ≡ (m + 1 + c) * j)
weights i j m c a b e f =
    let k = m + 1 + c in
    let whole : k * (b + a) ≡ k * (i + j) = ap (λ (z : ℕ). k * z) f in
    let behind : c * (b + a) ≡ c * (i + j) = ap (λ (z : ℕ). c * z) f in (
      omega (arith, mul-add k b a, mul-add k i j, mul-add c b a, add-mul (m + 1) c b, add-mul (m + 1) c a, add-mul m 1 b, add-mul m 1 a, mul_comm b (m + 1), mul_comm a m),
      omega (arith, mul-add c b a, mul-add a c 1, mul_comm b c, mul_comm a c),
    )

-- the mean of the two ends of the piece is that of the segment's ends, times the number of pieces
pub piece_mean : (i j m c a b : ℕ) (s t : ℤ) → (m + 1 + c) * j ≡ c * (i + j) + a → b + a ≡ i + j
    → (pos b *ℤ (pos (m + 1) *ℤ s +ℤ pos c *ℤ t) +ℤ pos a *ℤ (pos m *ℤ s +ℤ pos (c + 1) *ℤ t))
    ≡ pos (m + 1 + c) *ℤ (pos i *ℤ s +ℤ pos j *ℤ t)
piece_mean i j m c a b s t e f =
    let w = weights i j m c a b e f in
    omega (
      arith,
      ints,
      mul_add b (pos (m + 1) *ℤ s) (pos c *ℤ t),
      mul_add a (pos m *ℤ s) (pos (c + 1) *ℤ t),
      mul_add (m + 1 + c) (pos i *ℤ s) (pos j *ℤ t),
      mul_mul b (m + 1) s,
      mul_mul b c t,
      mul_mul a m s,
      mul_mul a (c + 1) t,
      mul_mul (m + 1 + c) i s,
      mul_mul (m + 1 + c) j t,
      weigh (b * (m + 1)) (a * m) s,
      weigh (b * c) (a * (c + 1)) t,
      ap (λ (z : ℕ). pos z *ℤ s) w.0,
      ap (λ (z : ℕ). pos z *ℤ t) w.1,
    )

-- ---- the factor of the pieces is taken out
low_out : (k w : ℕ) (c x : ℤ) → 1 ≤ k → (pos w *ℤ (pos (4 * k) *ℤ c)) ≤ℤ (pos k *ℤ x) → (pos (4 * w) *ℤ c) ≤ℤ x
low_out k w c x one h =
    let e : w * (4 * k) ≡ k * (4 * w) = omega arith in
    mul_le_back k (pos (4 * w) *ℤ c) x one
    (omega (arith, ints, mul_mul w (4 * k) c, mul_mul k (4 * w) c, ap (λ (z : ℕ). pos z *ℤ c) e))

high_out : (k w : ℕ) (c x : ℤ) → 1 ≤ k → (pos k *ℤ x) ≤ℤ (pos w *ℤ (pos (4 * k) *ℤ c)) → x ≤ℤ (pos (4 * w) *ℤ c)
high_out k w c x one h =
    let e : w * (4 * k) ≡ k * (4 * w) = omega arith in
    mul_le_back k x (pos (4 * w) *ℤ c) one
    (omega (arith, ints, mul_mul w (4 * k) c, mul_mul k (4 * w) c, ap (λ (z : ℕ). pos z *ℤ c) e))

pub pieces_out : (k w : ℕ) (h : Bounds) (x y : ℤ) → 1 ≤ k → Within (times w (times (4 * k) h)) (pos k *ℤ x) (pos k *ℤ y) → Within (times (4 * w) h) x y
pieces_out k w h x y one i = record {
  x_low = low_out k w h.x0 x one i.x_low;
  x_high = high_out k w h.x1 x one i.x_high;
  y_low = low_out k w h.y0 y one i.y_low;
  y_high = high_out k w h.y1 y one i.y_high;
  s_low = low_out k w h.s0 (x +ℤ y) one (omega (arith, ints, i.s_low, mul_add k x y));
  s_high = high_out k w h.s1 (x +ℤ y) one (omega (arith, ints, i.s_high, mul_add k x y));
  d_low = low_out k w h.d0 (x -ℤ y) one (omega (arith, ints, i.d_low, mul_sub k x y));
  d_high = high_out k w h.d1 (x -ℤ y) one (omega (arith, ints, i.d_high, mul_sub k x y));
}
