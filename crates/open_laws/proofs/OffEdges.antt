-- A point off finitely many edges: from a point strictly inside, one step of a kind that no edge allows.
--
-- From (u, v) at scale k the point (K u + 1, K v + N) at scale K k is one small step in the direction (1, N). N is greater
-- than the width and the height of each edge, so no edge has this direction; K is so large that the step is too short
-- to reach an edge's line from beside it, and it leaves the line where it begins on it.
use Rattle.std.proofs.Common.{◌≡◌, ◌∙◌, refl, sym, ap, ℕ, ◌+◌, ◌*◌, ◌≤◌, List, [], ◌∷◌, ◌⊎◌, inl, inr, arith}
use Rattle.std.specs.Prelude.{ℤ, pos, negsuc, neg_ℤ, ◌+ℤ◌, ◌-ℤ◌, ◌*ℤ◌, ◌≤ℤ◌, ◌<ℤ◌, Any}
use Rattle.std.specs.Int.RustNames.{unsigned_abs}
use Rattle.std.proofs.lemmas.Int.{ints, by_lt_z}
use lib.IntN.{*ℤ_comm, *ℤ-zero, *ℤ-one}
use Rattle.plane.specs.Plane.{PlanePoint, Bounds, StrictlyWithin, times, StrictlyIn, positive_product}
use Rattle.plane.specs.Narrow.{IsNearZero}
use Rattle.grid_num.proofs.Products.{mul_add, mul_sub, mul_neg, mul_le}
use Rattle.plane.proofs.Points.{mul_mul, mul_swap}
use Rattle.plane.specs.Covering.{Edge, IsOn}
use Rattle.plane.proofs.Lists.{any_none, any_cases}
use Rattle.open_laws.specs.Laws.{OffEdgesLaw, BesideLaw}

-- ---- products
neg_mul : (n : ℕ) (b : ℤ) → negsuc n *ℤ b ≡ neg_ℤ (pos (n + 1) *ℤ b)
neg_mul n b = omega (arith, ints)

distrib : (a b c : ℤ) → a *ℤ (b +ℤ c) ≡ a *ℤ b +ℤ a *ℤ c
distrib (pos k) b c = mul_add k b c
distrib (negsuc k) b c = omega (arith, ints, neg_mul k b, neg_mul k c, neg_mul k (b +ℤ c), mul_add (k + 1) b c)

past_scale : (a : ℤ) (n : ℕ) (x : ℤ) → a *ℤ (pos n *ℤ x) ≡ pos n *ℤ (a *ℤ x)
past_scale (pos j) n x = mul_swap j n x
past_scale (negsuc j) n x =
    neg_mul j (pos n *ℤ x)
    ∙ (ap neg_ℤ (mul_swap (j + 1) n x) ∙ (sym (mul_neg n (pos (j + 1) *ℤ x)) ∙ ap (λ (z : ℤ). pos n *ℤ z) (sym (neg_mul j x))))

spread : (n : ℕ) (a x c : ℤ) → a *ℤ (pos n *ℤ x +ℤ c) ≡ pos n *ℤ (a *ℤ x) +ℤ a *ℤ c
spread n a x c = distrib a (pos n *ℤ x) c ∙ ap (λ (z : ℤ). z +ℤ a *ℤ c) (past_scale a n x)

one_of : (n : ℕ) → pos n *ℤ pos 1 ≡ pos n
one_of n = omega (arith, ints)

-- a multiple of n that is nearer to 0 than n is 0
small_multiple : (n : ℕ) (d e : ℤ) → pos n *ℤ d ≡ e → neg_ℤ (pos n) <ℤ e → e <ℤ pos n → e ≡ pos 0
small_multiple n d e h l g =
    by_lt_z {P = e ≡ pos 0} d (pos 0)
    (λ s. absurd (let m = mul_le n d (neg_ℤ (pos 1)) (omega (arith, ints)) in let o = mul_neg n (pos 1) in let i = one_of n in omega (arith, ints)))
    (λ s. by_lt_z {P = e ≡ pos 0} (pos 0) d
    (λ t. absurd (let m = mul_le n (pos 1) d (omega (arith, ints)) in let i = one_of n in omega (arith, ints)))
    (λ t. let z : d ≡ pos 0 = omega (arith, ints) in sym h ∙ (ap (λ (w : ℤ). pos n *ℤ w) z ∙ *ℤ-zero (pos n))))

-- ---- no edge has the direction (1, N)
both_none : (m : ℕ) (dx dy : ℤ) → IsNearZero m dx → IsNearZero m dy → pos (m + 1) *ℤ dx -ℤ dy ≡ pos 0 → (dx ≡ pos 0) × (dy ≡ pos 0)
both_none m dx dy h k e =
    by_lt_z {P = (dx ≡ pos 0) × (dy ≡ pos 0)} dx (pos 0)
    (λ s. absurd (let l = mul_le (m + 1) dx (neg_ℤ (pos 1)) (omega (arith, ints)) in let o = mul_neg (m + 1) (pos 1) in let i = one_of (m + 1) in omega (arith, ints, h.low, k.low, k.high)))
    (λ s. by_lt_z {P = (dx ≡ pos 0) × (dy ≡ pos 0)} (pos 0) dx
    (λ t. absurd (let l = mul_le (m + 1) (pos 1) dx (omega (arith, ints)) in let i = one_of (m + 1) in omega (arith, ints, k.low, k.high)))
    (λ t.
    let z : dx ≡ pos 0 = omega (arith, ints) in
    let w : pos (m + 1) *ℤ dx ≡ pos 0 = ap (λ (w : ℤ). pos (m + 1) *ℤ w) z ∙ *ℤ-zero (pos (m + 1)) in
    (z, omega (arith, ints))))

-- ---- edges no wider and no higher than m
record IsShort (m : ℕ) (e : Edge) : Type 0 where
  across : IsNearZero m (e.finish.x -ℤ e.start.x)
  along : IsNearZero m (e.finish.y -ℤ e.start.y)

AreShort : ℕ → List Edge → Type 0
AreShort m [] = Unit {0}
AreShort m (e ∷ es) = IsShort m e × AreShort m es

near_more : (m n : ℕ) (z : ℤ) → m ≤ n → IsNearZero m z → IsNearZero n z
near_more m n z h k = record { low = omega (arith, ints, k.low); high = omega (arith, ints, k.high) }

short_more : (m n : ℕ) (e : Edge) → m ≤ n → IsShort m e → IsShort n e
short_more m n e h s = record { across = near_more m n _ h s.across; along = near_more m n _ h s.along }

are_more : (m n : ℕ) (es : List Edge) → m ≤ n → AreShort m es → AreShort n es
unfolding AreShort
are_more m n [] h s = tt
are_more m n (e ∷ es) h s = (short_more m n e h s.0, are_more m n es h s.1)

near_some : (z : ℤ) → (m : ℕ) × IsNearZero m z
near_some z = (unsigned_abs z, record { low = omega (arith, ints); high = omega (arith, ints) })

short_some : (e : Edge) → (m : ℕ) × IsShort m e
short_some e =
    let x = near_some (e.finish.x -ℤ e.start.x) in
    let y = near_some (e.finish.y -ℤ e.start.y) in
    (x.0 + y.0, record { across = near_more x.0 (x.0 + y.0) _ (left x.0 y.0) x.1; along = near_more y.0 (x.0 + y.0) _ (right x.0 y.0) y.1 })
  where
    left : (m n : ℕ) → m ≤ m + n
    left m n = omega arith

    right : (m n : ℕ) → n ≤ m + n
    right m n = omega arith

are_some : (es : List Edge) → (m : ℕ) × AreShort m es
unfolding AreShort
are_some [] = (0, tt)
are_some (e ∷ es) =
    let s = short_some e in
    let r = are_some es in
    (s.0 + r.0, (short_more s.0 (s.0 + r.0) e (left s.0 r.0) s.1, are_more r.0 (s.0 + r.0) es (right s.0 r.0) r.1))
  where
    left : (m n : ℕ) → m ≤ m + n
    left m n = omega arith

    right : (m n : ℕ) → n ≤ m + n
    right m n = omega arith

-- ---- the point
abbrev coarse : ℕ → ℕ
coarse m = (m + 1) * m + (m + (m + 5))

stepped_point : ℕ → PlanePoint → PlanePoint
stepped_point m p =
    record {
      x = pos (coarse m) *ℤ p.x +ℤ pos 1;
      y = pos (coarse m) *ℤ p.y +ℤ pos (m + 1);
      scale = coarse m * p.scale;
      positive = positive_product (coarse m) p.scale (omega arith) p.positive;
    }

-- it is still inside
low_fine : (n k : ℕ) (b x t : ℤ) → neg_ℤ (pos n) <ℤ t → (pos k *ℤ b) <ℤ x → (pos (n * k) *ℤ b) <ℤ (pos n *ℤ x +ℤ t)
low_fine n k b x t h l =
    omega (arith, ints, mul_mul n k b, mul_le n (pos k *ℤ b +ℤ pos 1) x (omega (arith, ints)), mul_add n (pos k *ℤ b) (pos 1), one_of n)

high_fine : (n k : ℕ) (b x t : ℤ) → t <ℤ pos n → x <ℤ (pos k *ℤ b) → (pos n *ℤ x +ℤ t) <ℤ (pos (n * k) *ℤ b)
high_fine n k b x t h l =
    omega (arith, ints, mul_mul n k b, mul_le n (x +ℤ pos 1) (pos k *ℤ b) (omega (arith, ints)), mul_add n x (pos 1), one_of n)

sum_fine : (n : ℕ) (x y s t : ℤ) → (pos n *ℤ x +ℤ s) +ℤ (pos n *ℤ y +ℤ t) ≡ pos n *ℤ (x +ℤ y) +ℤ (s +ℤ t)
sum_fine n x y s t = omega (arith, ints, mul_add n x y)

difference_fine : (n : ℕ) (x y s t : ℤ) → (pos n *ℤ x +ℤ s) -ℤ (pos n *ℤ y +ℤ t) ≡ pos n *ℤ (x -ℤ y) +ℤ (s -ℤ t)
difference_fine n x y s t = omega (arith, ints, mul_sub n x y)

strictly_fine : (n m k : ℕ) (b : Bounds) (u v : ℤ) → m + 3 ≤ n → StrictlyWithin (times k b) u v
    → StrictlyWithin (times (n * k) b) (pos n *ℤ u +ℤ pos 1) (pos n *ℤ v +ℤ pos (m + 1))
strictly_fine n m k b u v h w =
    let s = sum_fine n u v (pos 1) (pos (m + 1)) in
    let d = difference_fine n u v (pos 1) (pos (m + 1)) in
    record {
      x_low = low_fine n k b.x0 u (pos 1) (omega (arith, ints)) w.x_low;
      x_high = high_fine n k b.x1 u (pos 1) (omega (arith, ints)) w.x_high;
      y_low = low_fine n k b.y0 v (pos (m + 1)) (omega (arith, ints)) w.y_low;
      y_high = high_fine n k b.y1 v (pos (m + 1)) (omega (arith, ints)) w.y_high;
      s_low = rw s (low_fine n k b.s0 (u +ℤ v) (pos 1 +ℤ pos (m + 1)) (omega (arith, ints)) w.s_low);
      s_high = rw s (high_fine n k b.s1 (u +ℤ v) (pos 1 +ℤ pos (m + 1)) (omega (arith, ints)) w.s_high);
      d_low = rw d (low_fine n k b.d0 (u -ℤ v) (pos 1 -ℤ pos (m + 1)) (omega (arith, ints)) w.d_low);
      d_high = rw d (high_fine n k b.d1 (u -ℤ v) (pos 1 -ℤ pos (m + 1)) (omega (arith, ints)) w.d_high);
    }

-- and on no edge
shifted : (n k : ℕ) (u s t : ℤ) → (pos n *ℤ u +ℤ t) -ℤ pos (n * k) *ℤ s ≡ pos n *ℤ (u -ℤ pos k *ℤ s) +ℤ t
shifted n k u s t = omega (arith, ints, mul_mul n k s, mul_sub n u (pos k *ℤ s))

-- from the line's equation: a multiple of n is (m + 1) dx - dy
on_line : (n m k : ℕ) (dx dy u v sx sy : ℤ)
    → dy *ℤ ((pos n *ℤ u +ℤ pos 1) -ℤ pos (n * k) *ℤ sx) ≡ dx *ℤ ((pos n *ℤ v +ℤ pos (m + 1)) -ℤ pos (n * k) *ℤ sy)
    → pos n *ℤ (dy *ℤ (u -ℤ pos k *ℤ sx) -ℤ dx *ℤ (v -ℤ pos k *ℤ sy)) ≡ pos (m + 1) *ℤ dx -ℤ dy
on_line n m k dx dy u v sx sy h =
    let x = u -ℤ pos k *ℤ sx in
    let y = v -ℤ pos k *ℤ sy in
    let e : dy *ℤ (pos n *ℤ x +ℤ pos 1) ≡ dx *ℤ (pos n *ℤ y +ℤ pos (m + 1)) =
    ap (λ (z : ℤ). dy *ℤ z) (sym (shifted n k u sx (pos 1))) ∙ (h ∙ ap (λ (z : ℤ). dx *ℤ z) (shifted n k v sy (pos (m + 1)))) in
    tidied n dx dy (dy *ℤ x) (dx *ℤ y) (pos (m + 1)) (sym (spread n dy x (pos 1)) ∙ (e ∙ spread n dx y (pos (m + 1))))
  where
    tidied : (n : ℕ) (dx dy a c t : ℤ) → pos n *ℤ a +ℤ dy *ℤ pos 1 ≡ pos n *ℤ c +ℤ dx *ℤ t → pos n *ℤ (a -ℤ c) ≡ t *ℤ dx -ℤ dy
    tidied n dx dy a c t h = omega (arith, ints, mul_sub n a c, *ℤ-one dy, *ℤ_comm dx t)

-- (m + 1) dx - dy is small
slope_small : (m : ℕ) (dx dy : ℤ) → IsNearZero m dx → IsNearZero m dy → IsNearZero ((m + 1) * m + m) (pos (m + 1) *ℤ dx -ℤ dy)
slope_small m dx dy h k =
    let e : pos (m + 1) *ℤ pos m ≡ pos ((m + 1) * m) = refl in
    let p = mul_le (m + 1) dx (pos m) h.high in
    let q = mul_le (m + 1) (neg_ℤ (pos m)) dx h.low in
    let o = mul_neg (m + 1) (pos m) in
    record { low = bound_low (pos (m + 1) *ℤ dx) dy ((m + 1) * m) m (omega (arith, ints, q, o, e)) k.high; high = bound_high (pos (m + 1) *ℤ dx) dy ((m + 1) * m) m (omega (arith, ints, p, e)) k.low }
  where
    bound_low : (a c : ℤ) (n m : ℕ) → neg_ℤ (pos n) ≤ℤ a → c ≤ℤ pos m → neg_ℤ (pos (n + m)) ≤ℤ (a -ℤ c)
    bound_low a c n m h l = omega (arith, ints)

    bound_high : (a c : ℤ) (n m : ℕ) → a ≤ℤ pos n → neg_ℤ (pos m) ≤ℤ c → (a -ℤ c) ≤ℤ pos (n + m)
    bound_high a c n m h l = omega (arith, ints)

-- an edge that is one corner alone
on_corner : (n k : ℕ) (u s : ℤ) → 2 ≤ n → pos n *ℤ u +ℤ pos 1 ≡ pos (n * k) *ℤ s → ⊥
on_corner n k u s two h =
    let e : pos n *ℤ (pos k *ℤ s -ℤ u) ≡ pos 1 = omega (arith, ints, mul_sub n (pos k *ℤ s) u, mul_mul n k s) in
    let z : pos 1 ≡ pos 0 = small_multiple n (pos k *ℤ s -ℤ u) (pos 1) e (omega (arith, ints)) (omega (arith, ints)) in
    omega (arith, ints, z)

off_edge : (m : ℕ) (e : Edge) (p : PlanePoint) → IsShort m e → IsOn e (stepped_point m p) → ⊥
unfolding stepped_point
off_edge m e p s o =
    let n = coarse m in
    let k = p.scale in
    let dx = e.finish.x -ℤ e.start.x in
    let dy = e.finish.y -ℤ e.start.y in
    let l = on_line n m k dx dy p.x p.y e.start.x e.start.y o.line in
    let w = slope_small m dx dy s.across s.along in
    let z = small_multiple n _ (pos (m + 1) *ℤ dx -ℤ dy) l (wide_low m _ w) (wide_high m _ w) in
    let b = both_none m dx dy s.across s.along z in
    let f : e.start.x ≡ e.finish.x = same e.start.x e.finish.x b.0 in
    let g = ap (λ (a : ℤ). pos (n * k) *ℤ a) f in
    on_corner n k p.x e.start.x (at_least m) (met _ _ _ g o.across)
  where
    same : (a c : ℤ) → c -ℤ a ≡ pos 0 → a ≡ c
    same a c h = omega (arith, ints)

    wide_low : (m : ℕ) (z : ℤ) → IsNearZero ((m + 1) * m + m) z → neg_ℤ (pos (coarse m)) <ℤ z
    wide_low m z h = omega (arith, ints, h.low)

    wide_high : (m : ℕ) (z : ℤ) → IsNearZero ((m + 1) * m + m) z → z <ℤ pos (coarse m)
    wide_high m z h = omega (arith, ints, h.high)

    at_least : (m : ℕ) → 2 ≤ coarse m
    at_least m = omega arith

    met : (a c z : ℤ) → a ≡ c → (((a ≤ℤ z) × (z ≤ℤ c)) ⊎ ((c ≤ℤ z) × (z ≤ℤ a))) → z ≡ a
    met a c z h i = omega (arith, ints)

off_all : (m : ℕ) (es : List Edge) (p : PlanePoint) → AreShort m es → Any (λ e. IsOn e (stepped_point m p)) es → ⊥
unfolding AreShort
off_all m [] p s a = any_none (λ e. IsOn e (stepped_point m p)) a
off_all m (e ∷ es) p s a =
    elim (any_cases (λ e. IsOn e (stepped_point m p)) e es a) [
      | inl h ↦ off_edge m e p s.0 h
      | inr h ↦ off_all m es p s.1 h
    ]

stepped_in : (m : ℕ) (b : Bounds) (p : PlanePoint) → StrictlyIn b p → StrictlyIn b (stepped_point m p)
unfolding stepped_point
stepped_in m b p w = strictly_fine (coarse m) m p.scale b p.x p.y (wide m) w
  where
    wide : (m : ℕ) → m + 3 ≤ coarse m
    wide m = omega arith

pub beside : BesideLaw
beside es p = let s = are_some es in (stepped_point s.0 p, λ b w. stepped_in s.0 b p w, off_all s.0 es p s.1)

pub off_edges : OffEdgesLaw
off_edges b es p w = let s = beside es p in (s.0, s.1 b w, s.2)
