-- What the steps from eight bounds to an octagon owe, over plain numbers.
use Rattle.std.proofs.Common.{◌≡◌, refl, sym, ap, subst, ◌⊎◌, inl, inr, arith, w64, to_z, of_z, FitsSigned}
use Rattle.std.specs.Prelude.{ℤ, pos, ◌+ℤ◌, ◌-ℤ◌, ◌≤ℤ◌, ◌<ℤ◌, neg_ℤ, ◌↔◌, IsTrue, Bool, true, false, Option, None, Some, IsNone, IfSome}
use Rattle.std.specs.Int.{int_max, int_min}
use Rattle.std.proofs.lemmas.Int.{ints, clamps, by_lt_z}
use Rattle.plane.specs.Plane.{Bounds, Within, StrictlyWithin, IsOct}
use Rattle.plane.specs.Narrow.{IsGreatestOfFour, IsLeastOfFour, IsHalfUp, IsHalfDown, IsNarrowed, IsClosed, IsOrdered, IsSmall, Small, IsTakeable}
use Rattle.octagon.specs.Bounded.{AreInRange}
use Rattle.octagon.specs.Inner.Steps.{IsLower, IsUpper, IsTightened}
use Rattle.plane.proofs.Narrow.{none_ordered, narrowed_x, IsOct-closed, narrowed_within, closed_within, within_closed, within_narrowed}
use Rattle.std.specs.Int.Signed.{le_z, lt_z}
use Rattle.octagon.proofs.Plain.{code_read, code_add, code_sub, plain_add, plain_sub, plain_read, IsOct-IsSmall}
use Rattle.plane.proofs.Equal.{equal}
use Rattle.plane.proofs.Tight.{top_left_x}

max_is : (a b m : ℤ) → FitsSigned w64 a → FitsSigned w64 b → m ≡ int_max (code_read a) (code_read b) → (m ≡ a) ⊎ (m ≡ b)
max_is a b m h k e = by_lt_z {P = (m ≡ a) ⊎ (m ≡ b)} a b (λ l. inr (omega (arith, ints, clamps))) (λ l. inl (omega (arith, ints, clamps)))

min_is : (a b m : ℤ) → FitsSigned w64 a → FitsSigned w64 b → m ≡ int_min (code_read a) (code_read b) → (m ≡ a) ⊎ (m ≡ b)
min_is a b m h k e = by_lt_z {P = (m ≡ a) ⊎ (m ≡ b)} a b (λ l. inl (omega (arith, ints, clamps))) (λ l. inr (omega (arith, ints, clamps)))

choice : (a b c d p q m : ℤ) → ((p ≡ a) ⊎ (p ≡ b)) → ((q ≡ c) ⊎ (q ≡ d)) → ((m ≡ p) ⊎ (m ≡ q)) → (m ≡ a) ⊎ ((m ≡ b) ⊎ ((m ≡ c) ⊎ (m ≡ d)))
choice a b c d p q m f g h =
    elim h [
      | inl e ↦ elim f [ inl i ↦ inl (cc) | inr i ↦ inr (inl (cc)) ]
      | inr e ↦ elim g [ inl i ↦ inr (inr (inl (cc))) | inr i ↦ inr (inr (inr (cc))) ]
    ]

fits_one : (m a b : ℤ) → FitsSigned w64 a → FitsSigned w64 b → ((m ≡ a) ⊎ (m ≡ b)) → FitsSigned w64 m
fits_one m a b h k e = omega (arith, ints)

pub greatest_of : (a b c d p q m : ℤ) → FitsSigned w64 a → FitsSigned w64 b → FitsSigned w64 c → FitsSigned w64 d
    → p ≡ int_max (code_read a) (code_read b) → q ≡ int_max (code_read c) (code_read d) → m ≡ int_max (code_read p) (code_read q) → IsGreatestOfFour a b c d (code_read m)
greatest_of a b c d p q m ha hb hc hd e1 e2 e3 =
    let f = max_is a b p ha hb e1 in
    let g = max_is c d q hc hd e2 in
    let hp = fits_one p a b ha hb f in
    let hq = fits_one q c d hc hd g in
    let h = max_is p q m hp hq e3 in
    let hm = fits_one m p q hp hq h in
    let e : code_read m ≡ m = omega (arith, ints) in
    let P : ℤ → Type 0 = λ z. IsGreatestOfFour a b c d z in
    subst P (sym e) (record {
      first = omega (arith, ints, clamps);
      second = omega (arith, ints, clamps);
      third = omega (arith, ints, clamps);
      fourth = omega (arith, ints, clamps);
      is = choice a b c d p q m f g h;
    })

pub least_of : (a b c d p q m : ℤ) → FitsSigned w64 a → FitsSigned w64 b → FitsSigned w64 c → FitsSigned w64 d
    → p ≡ int_min (code_read a) (code_read b) → q ≡ int_min (code_read c) (code_read d) → m ≡ int_min (code_read p) (code_read q) → IsLeastOfFour a b c d (code_read m)
least_of a b c d p q m ha hb hc hd e1 e2 e3 =
    let f = min_is a b p ha hb e1 in
    let g = min_is c d q hc hd e2 in
    let hp = fits_one p a b ha hb f in
    let hq = fits_one q c d hc hd g in
    let h = min_is p q m hp hq e3 in
    let hm = fits_one m p q hp hq h in
    let e : code_read m ≡ m = omega (arith, ints) in
    let P : ℤ → Type 0 = λ z. IsLeastOfFour a b c d z in
    subst P (sym e) (record {
      first = omega (arith, ints, clamps);
      second = omega (arith, ints, clamps);
      third = omega (arith, ints, clamps);
      fourth = omega (arith, ints, clamps);
      is = choice a b c d p q m f g h;
    })

greatest_by : (a b c d m a' b' c' d' m' : ℤ) → a ≡ a' → b ≡ b' → c ≡ c' → d ≡ d' → m ≡ m' → IsGreatestOfFour a b c d m → IsGreatestOfFour a' b' c' d' m'
greatest_by a b c d m a' b' c' d' m' e1 e2 e3 e4 e5 g =
    let P1 : ℤ → Type 0 = λ z. IsGreatestOfFour z b c d m in
    let P2 : ℤ → Type 0 = λ z. IsGreatestOfFour a' z c d m in
    let P3 : ℤ → Type 0 = λ z. IsGreatestOfFour a' b' z d m in
    let P4 : ℤ → Type 0 = λ z. IsGreatestOfFour a' b' c' z m in
    let P5 : ℤ → Type 0 = λ z. IsGreatestOfFour a' b' c' d' z in
    subst P5 e5 (subst P4 e4 (subst P3 e3 (subst P2 e2 (subst P1 e1 g))))

least_by : (a b c d m a' b' c' d' m' : ℤ) → a ≡ a' → b ≡ b' → c ≡ c' → d ≡ d' → m ≡ m' → IsLeastOfFour a b c d m → IsLeastOfFour a' b' c' d' m'
least_by a b c d m a' b' c' d' m' e1 e2 e3 e4 e5 g =
    let P1 : ℤ → Type 0 = λ z. IsLeastOfFour z b c d m in
    let P2 : ℤ → Type 0 = λ z. IsLeastOfFour a' z c d m in
    let P3 : ℤ → Type 0 = λ z. IsLeastOfFour a' b' z d m in
    let P4 : ℤ → Type 0 = λ z. IsLeastOfFour a' b' c' z m in
    let P5 : ℤ → Type 0 = λ z. IsLeastOfFour a' b' c' d' z in
    subst P5 e5 (subst P4 e4 (subst P3 e3 (subst P2 e2 (subst P1 e1 g))))

fits_greatest : (a b c d m : ℤ) → FitsSigned w64 a → FitsSigned w64 b → FitsSigned w64 c → FitsSigned w64 d → ((m ≡ a) ⊎ ((m ≡ b) ⊎ ((m ≡ c) ⊎ (m ≡ d)))) → code_read m ≡ m
fits_greatest a b c d m h1 h2 h3 h4 e = omega (arith, ints)

pub lower_of : (own sum far difference near h r : ℤ) → FitsSigned w64 own → Small sum → Small far → Small difference → Small near
    → IsHalfUp (code_add sum difference) h → IsGreatestOfFour (code_read own) (code_sub sum far) (code_add difference near) (code_read h) r
    → IsLower own sum far difference near (code_read r)
lower_of own sum far difference near h r fo hs hf hd hn half g =
    let e0 : code_read own ≡ own = omega (arith, ints) in
    let e1 = plain_sub sum far hs hf in
    let e2 = plain_add difference near hd hn in
    let e3 = plain_add sum difference hs hd in
    let half' : IsHalfUp (sum +ℤ difference) h = record { low = omega (arith, ints, half.low); high = omega (arith, ints, half.high) } in
    let e4 : code_read h ≡ h = small_half sum difference h hs hd half' in
    let f1 : FitsSigned w64 (sum -ℤ far) = small_fits sum far hs hf in
    let f2 : FitsSigned w64 (difference +ℤ near) = small_fits' difference near hd hn in
    let f3 : FitsSigned w64 h = half_fits sum difference h hs hd half' in
    let g' = greatest_by _ _ _ _ _ own (sum -ℤ far) (difference +ℤ near) h r e0 e1 e2 e4 refl g in
    (h, half', greatest_by _ _ _ _ _ own (sum -ℤ far) (difference +ℤ near) h (code_read r) refl refl refl refl (sym (fits_greatest own (sum -ℤ far) (difference +ℤ near) h r fo f1 f2 f3 g'.is)) g')
  where
    small_half : (s d h : ℤ) → Small s → Small d → IsHalfUp (s +ℤ d) h → code_read h ≡ h
    small_half s d h k l u = omega (arith, ints)

    half_fits : (s d h : ℤ) → Small s → Small d → IsHalfUp (s +ℤ d) h → FitsSigned w64 h
    half_fits s d h k l u = omega (arith, ints)

    small_fits : (a b : ℤ) → Small a → Small b → FitsSigned w64 (a -ℤ b)
    small_fits a b h k = omega (arith, ints)

    small_fits' : (a b : ℤ) → Small a → Small b → FitsSigned w64 (a +ℤ b)
    small_fits' a b h k = omega (arith, ints)

pub upper_of : (own sum far difference near h r : ℤ) → FitsSigned w64 own → Small sum → Small far → Small difference → Small near
    → IsHalfDown (code_add sum difference) h → IsLeastOfFour (code_read own) (code_sub sum far) (code_add difference near) (code_read h) r
    → IsUpper own sum far difference near (code_read r)
upper_of own sum far difference near h r fo hs hf hd hn half g =
    let e0 : code_read own ≡ own = omega (arith, ints) in
    let e1 = plain_sub sum far hs hf in
    let e2 = plain_add difference near hd hn in
    let e3 = plain_add sum difference hs hd in
    let half' : IsHalfDown (sum +ℤ difference) h = record { low = omega (arith, ints, half.low); high = omega (arith, ints, half.high) } in
    let e4 : code_read h ≡ h = small_half sum difference h hs hd half' in
    let f1 : FitsSigned w64 (sum -ℤ far) = small_fits sum far hs hf in
    let f2 : FitsSigned w64 (difference +ℤ near) = small_fits' difference near hd hn in
    let f3 : FitsSigned w64 h = half_fits sum difference h hs hd half' in
    let g' = least_by _ _ _ _ _ own (sum -ℤ far) (difference +ℤ near) h r e0 e1 e2 e4 refl g in
    (h, half', least_by _ _ _ _ _ own (sum -ℤ far) (difference +ℤ near) h (code_read r) refl refl refl refl (sym (fits_greatest own (sum -ℤ far) (difference +ℤ near) h r fo f1 f2 f3 g'.is)) g')
  where
    small_half : (s d h : ℤ) → Small s → Small d → IsHalfDown (s +ℤ d) h → code_read h ≡ h
    small_half s d h k l u = omega (arith, ints)

    half_fits : (s d h : ℤ) → Small s → Small d → IsHalfDown (s +ℤ d) h → FitsSigned w64 h
    half_fits s d h k l u = omega (arith, ints)

    small_fits : (a b : ℤ) → Small a → Small b → FitsSigned w64 (a -ℤ b)
    small_fits a b h k = omega (arith, ints)

    small_fits' : (a b : ℤ) → Small a → Small b → FitsSigned w64 (a +ℤ b)
    small_fits' a b h k = omega (arith, ints)

-- ---- all four
subst5 : (P : ℤ → ℤ → ℤ → ℤ → ℤ → Type 0) (a b c d e a' b' c' d' e' : ℤ) → a ≡ a' → b ≡ b' → c ≡ c' → d ≡ d' → e ≡ e' → P a b c d e → P a' b' c' d' e'
subst5 P a b c d e a' b' c' d' e' e1 e2 e3 e4 e5 g =
    let P1 : ℤ → Type 0 = λ z. P z b c d e in
    let P2 : ℤ → Type 0 = λ z. P a' z c d e in
    let P3 : ℤ → Type 0 = λ z. P a' b' z d e in
    let P4 : ℤ → Type 0 = λ z. P a' b' c' z e in
    let P5 : ℤ → Type 0 = λ z. P a' b' c' d' z in
    subst P5 e5 (subst P4 e4 (subst P3 e3 (subst P2 e2 (subst P1 e1 g))))

abbrev pub code_negated : ℤ → ℤ
code_negated a = to_z w64 (of_z w64 (pos 0 -ℤ code_read a))

plain_negated : (a : ℤ) → Small a → code_negated a ≡ neg_ℤ a
plain_negated a h = omega (arith, ints)

pub fits_negated : (a : ℤ) → Small a → FitsSigned w64 (pos 0 -ℤ code_read a)
fits_negated a h = omega (arith, ints)

pub small_negated : (a : ℤ) → Small a → Small (code_negated a)
small_negated a h = record { low = omega (arith, ints); high = omega (arith, ints) }

read_fits : (r : ℤ) → FitsSigned w64 r → code_read r ≡ r
read_fits r h = omega (arith, ints)

abbrev pub code_narrowed : Bounds → ℤ → ℤ → ℤ → ℤ → Bounds
code_narrowed b r1 r2 r3 r4 =
    record {
      x0 = code_read r1;
      x1 = code_read r2;
      y0 = code_read r3;
      y1 = code_read r4;
      s0 = code_read b.s0;
      s1 = code_read b.s1;
      d0 = code_read b.d0;
      d1 = code_read b.d1;
    }

pub narrowed_of : (b : Bounds) (r1 r2 r3 r4 : ℤ) → IsSmall b → FitsSigned w64 r1 → FitsSigned w64 r2 → FitsSigned w64 r3 → FitsSigned w64 r4
    → IsLower (code_read b.x0) (code_read b.s0) (code_read b.y1) (code_read b.d0) (code_read b.y0) r1
    → IsUpper (code_read b.x1) (code_read b.s1) (code_read b.y0) (code_read b.d1) (code_read b.y1) r2
    → IsLower (code_read b.y0) (code_read b.s0) (code_read b.x1) (code_negated b.d1) (code_read b.x0) r3
    → IsUpper (code_read b.y1) (code_read b.s1) (code_read b.x0) (code_negated b.d0) (code_read b.x1) r4
    → IsNarrowed b (code_narrowed b r1 r2 r3 r4)
narrowed_of b r1 r2 r3 r4 m f1 f2 f3 f4 h1 h2 h3 h4 =
    let Q1 : ℤ → Type 0 = λ z. IsLower b.x0 b.s0 b.y1 b.d0 b.y0 z in
    let Q2 : ℤ → Type 0 = λ z. IsUpper b.x1 b.s1 b.y0 b.d1 b.y1 z in
    let Q3 : ℤ → Type 0 = λ z. IsLower b.y0 b.s0 b.x1 (neg_ℤ b.d1) b.x0 z in
    let Q4 : ℤ → Type 0 = λ z. IsUpper b.y1 b.s1 b.x0 (neg_ℤ b.d0) b.x1 z in
    record {
      hx0 = subst Q1 (sym (read_fits r1 f1)) (subst5 (λ v w x y z. IsLower v w x y z r1) _ _ _ _ _ b.x0 b.s0 b.y1 b.d0 b.y0 (plain_read b.x0 m.x0) (plain_read b.s0 m.s0) (plain_read b.y1 m.y1) (plain_read b.d0 m.d0) (plain_read b.y0 m.y0) h1);
      hx1 = subst Q2 (sym (read_fits r2 f2)) (subst5 (λ v w x y z. IsUpper v w x y z r2) _ _ _ _ _ b.x1 b.s1 b.y0 b.d1 b.y1 (plain_read b.x1 m.x1) (plain_read b.s1 m.s1) (plain_read b.y0 m.y0) (plain_read b.d1 m.d1) (plain_read b.y1 m.y1) h2);
      hy0 = subst Q3 (sym (read_fits r3 f3)) (subst5 (λ v w x y z. IsLower v w x y z r3) _ _ _ _ _ b.y0 b.s0 b.x1 (neg_ℤ b.d1) b.x0 (plain_read b.y0 m.y0) (plain_read b.s0 m.s0) (plain_read b.x1 m.x1) (plain_negated b.d1 m.d1) (plain_read b.x0 m.x0) h3);
      hy1 = subst Q4 (sym (read_fits r4 f4)) (subst5 (λ v w x y z. IsUpper v w x y z r4) _ _ _ _ _ b.y1 b.s1 b.x0 (neg_ℤ b.d0) b.x1 (plain_read b.y1 m.y1) (plain_read b.s1 m.s1) (plain_read b.x0 m.x0) (plain_negated b.d0 m.d0) (plain_read b.x1 m.x1) h4);
      s0 = plain_read b.s0 m.s0;
      s1 = plain_read b.s1 m.s1;
      d0 = plain_read b.d0 m.d0;
      d1 = plain_read b.d1 m.d1;
    }

-- ---- the sums
abbrev code_twice_sub : ℤ → ℤ → ℤ
code_twice_sub a p = code_read (code_read (code_read a +ℤ code_read a) -ℤ code_read p)

abbrev code_twice_add : ℤ → ℤ → ℤ
code_twice_add a p = code_read (code_read (code_read a +ℤ code_read a) +ℤ code_read p)

plain_twice_sub : (a p : ℤ) → Small a → Small p → code_twice_sub a p ≡ (a +ℤ a) -ℤ p
plain_twice_sub a p h k = omega (arith, ints)

plain_twice_add : (a p : ℤ) → Small a → Small p → code_twice_add a p ≡ (a +ℤ a) +ℤ p
plain_twice_add a p h k = omega (arith, ints)

pub sum_low_of : (own a b p q m : ℤ) → FitsSigned w64 own → FitsSigned w64 m → Small a → Small b → Small p → Small q
    → IsGreatestOfFour (code_read own) (code_add a b) (code_twice_sub a p) (code_twice_add b q) m
    → IsGreatestOfFour own (a +ℤ b) ((a +ℤ a) -ℤ p) ((b +ℤ b) +ℤ q) (code_read m)
sum_low_of own a b p q m fo fm ha hb hp hq g =
    greatest_by _ _ _ _ _ _ _ _ _ _ (read_fits own fo) (plain_add a b ha hb) (plain_twice_sub a p ha hp) (plain_twice_add b q hb hq) (sym (read_fits m fm)) g

pub sum_high_of : (own a b p q m : ℤ) → FitsSigned w64 own → FitsSigned w64 m → Small a → Small b → Small p → Small q
    → IsLeastOfFour (code_read own) (code_add a b) (code_twice_sub a p) (code_twice_add b q) m
    → IsLeastOfFour own (a +ℤ b) ((a +ℤ a) -ℤ p) ((b +ℤ b) +ℤ q) (code_read m)
sum_high_of own a b p q m fo fm ha hb hp hq g =
    least_by _ _ _ _ _ _ _ _ _ _ (read_fits own fo) (plain_add a b ha hb) (plain_twice_sub a p ha hp) (plain_twice_add b q hb hq) (sym (read_fits m fm)) g

-- ---- the four bounds on x + y and x - y
abbrev SumLow : ℤ → ℤ → ℤ → ℤ → ℤ → ℤ → Type 0
SumLow own a b p q m = IsGreatestOfFour own (a +ℤ b) ((a +ℤ a) -ℤ p) ((b +ℤ b) +ℤ q) m

abbrev SumHigh : ℤ → ℤ → ℤ → ℤ → ℤ → ℤ → Type 0
SumHigh own a b p q m = IsLeastOfFour own (a +ℤ b) ((a +ℤ a) -ℤ p) ((b +ℤ b) +ℤ q) m

abbrev pub code_closed : Bounds → ℤ → ℤ → ℤ → ℤ → Bounds
code_closed t r1 r2 r3 r4 =
    record {
      x0 = code_read t.x0;
      x1 = code_read t.x1;
      y0 = code_read t.y0;
      y1 = code_read t.y1;
      s0 = code_read r1;
      s1 = code_read r2;
      d0 = code_read r3;
      d1 = code_read r4;
    }

pub closed_of : (t : Bounds) (r1 r2 r3 r4 : ℤ) → IsSmall t → FitsSigned w64 r1 → FitsSigned w64 r2 → FitsSigned w64 r3 → FitsSigned w64 r4
    → SumLow (code_read t.s0) (code_read t.x0) (code_read t.y0) (code_read t.d1) (code_read t.d0) r1
    → SumHigh (code_read t.s1) (code_read t.x1) (code_read t.y1) (code_read t.d0) (code_read t.d1) r2
    → SumLow (code_read t.d0) (code_read t.x0) (code_negated t.y1) (code_read t.s1) (code_read t.s0) r3
    → SumHigh (code_read t.d1) (code_read t.x1) (code_negated t.y0) (code_read t.s0) (code_read t.s1) r4
    → IsClosed t (code_closed t r1 r2 r3 r4)
closed_of t r1 r2 r3 r4 m f1 f2 f3 f4 h1 h2 h3 h4 =
    let Q1 : ℤ → Type 0 = λ z. SumLow t.s0 t.x0 t.y0 t.d1 t.d0 z in
    let Q2 : ℤ → Type 0 = λ z. SumHigh t.s1 t.x1 t.y1 t.d0 t.d1 z in
    let Q3 : ℤ → Type 0 = λ z. SumLow t.d0 t.x0 (neg_ℤ t.y1) t.s1 t.s0 z in
    let Q4 : ℤ → Type 0 = λ z. SumHigh t.d1 t.x1 (neg_ℤ t.y0) t.s0 t.s1 z in
    record {
      x0 = plain_read t.x0 m.x0;
      x1 = plain_read t.x1 m.x1;
      y0 = plain_read t.y0 m.y0;
      y1 = plain_read t.y1 m.y1;
      s0 = subst Q1 (sym (read_fits r1 f1)) (subst5 (λ v w x y z. SumLow v w x y z r1) _ _ _ _ _ t.s0 t.x0 t.y0 t.d1 t.d0 (plain_read t.s0 m.s0) (plain_read t.x0 m.x0) (plain_read t.y0 m.y0) (plain_read t.d1 m.d1) (plain_read t.d0 m.d0) h1);
      s1 = subst Q2 (sym (read_fits r2 f2)) (subst5 (λ v w x y z. SumHigh v w x y z r2) _ _ _ _ _ t.s1 t.x1 t.y1 t.d0 t.d1 (plain_read t.s1 m.s1) (plain_read t.x1 m.x1) (plain_read t.y1 m.y1) (plain_read t.d0 m.d0) (plain_read t.d1 m.d1) h2);
      d0 = subst Q3 (sym (read_fits r3 f3)) (subst5 (λ v w x y z. SumLow v w x y z r3) _ _ _ _ _ t.d0 t.x0 (neg_ℤ t.y1) t.s1 t.s0 (plain_read t.d0 m.d0) (plain_read t.x0 m.x0) (plain_negated t.y1 m.y1) (plain_read t.s1 m.s1) (plain_read t.s0 m.s0) h3);
      d1 = subst Q4 (sym (read_fits r4 f4)) (subst5 (λ v w x y z. SumHigh v w x y z r4) _ _ _ _ _ t.d1 t.x1 (neg_ℤ t.y0) t.s0 t.s1 (plain_read t.d1 m.d1) (plain_read t.x1 m.x1) (plain_negated t.y0 m.y0) (plain_read t.s0 m.s0) (plain_read t.s1 m.s1) h4);
    }

pub small_one : (a : ℤ) → Small a → Small (code_read a)
small_one a h = record { low = omega (arith, ints); high = omega (arith, ints) }

-- ---- the whole step
le_plain : (a b : ℤ) → Small a → Small b → IsTrue (le_z (code_read a) (code_read b)) ↔ (a ≤ℤ b)
le_plain a b h k = (λ t. omega (arith, ints), λ l. sym (omega (arith, ints)))

pub ordered_of : (b : Bounds) (r : Bool) → IsSmall b
    → (IsTrue r ↔ (IsTrue (le_z (code_read b.x0) (code_read b.x1)) × IsTrue (le_z (code_read b.y0) (code_read b.y1)) × IsTrue (le_z (code_read b.s0) (code_read b.s1)) × IsTrue (le_z (code_read b.d0) (code_read b.d1))))
    → IsTrue r ↔ IsOrdered b
ordered_of b r m o =
    let x = le_plain b.x0 b.x1 m.x0 m.x1 in
    let y = le_plain b.y0 b.y1 m.y0 m.y1 in
    let s = le_plain b.s0 b.s1 m.s0 m.s1 in
    let d = le_plain b.d0 b.d1 m.d0 m.d1 in (
      λ t. let a = o.0 t in record { x = x.0 a.0; y = y.0 a.1; s = s.0 a.2; d = d.0 a.3 },
      λ f. o.1 (x.1 f.x, y.1 f.y, s.1 f.s, d.1 f.d),
    )

pub none_unordered : (b : Bounds) (r : Bool) → (IsTrue r ↔ IsOrdered b) → r ≡ false → (x y : ℤ) → ¬ (Within b x y)
none_unordered b r o e x y w = let t = o.1 (none_ordered b x y w) in cc

pub none_narrow : (b t : Bounds) → IsNarrowed b t → t.x1 <ℤ t.x0 → (x y : ℤ) → ¬ (Within b x y)
none_narrow b t n l x y w = let h = narrowed_x b t x y n w in omega (arith, ints)

pub least_round_of : (b t r : Bounds) → IsTakeable b → IsNarrowed b t → IsOrdered b → t.x0 ≤ℤ t.x1 → IsClosed t r → IsTightened b r
least_round_of b t r k n o h c =
    record {
      oct = IsOct-closed b t r k n o h c;
      same = λ x y. (λ w. narrowed_within b t x y n (closed_within t r x y c w), λ w. within_closed t r x y c (within_narrowed b t x y n w));
    }

abbrev pub code_copy : Bounds → Bounds
code_copy r =
    record {
      x0 = code_read r.x0;
      x1 = code_read r.x1;
      y0 = code_read r.y0;
      y1 = code_read r.y1;
      s0 = code_read r.s0;
      s1 = code_read r.s1;
      d0 = code_read r.d0;
      d1 = code_read r.d1;
    }

copy_is : (r : Bounds) → IsSmall r → code_copy r ≡ r
copy_is r m = equal (code_copy r) r (record {
  x0 = plain_read r.x0 m.x0;
  x1 = plain_read r.x1 m.x1;
  y0 = plain_read r.y0 m.y0;
  y1 = plain_read r.y1 m.y1;
  s0 = plain_read r.s0 m.s0;
  s1 = plain_read r.s1 m.s1;
  d0 = plain_read r.d0 m.d0;
  d1 = plain_read r.d1 m.d1;
})

pub copied : (b t r : Bounds) → IsTakeable b → IsNarrowed b t → IsOrdered b → t.x0 ≤ℤ t.x1 → IsClosed t r → IsTightened b (code_copy r)
copied b t r k n o h c =
    let l = least_round_of b t r k n o h c in
    let P : Bounds → Type 0 = λ z. IsTightened b z in
    subst P (sym (copy_is r (IsOct-IsSmall r l.oct))) l

pub branch_le : (t v : Bounds) → v ≡ t → FitsSigned w64 v.x0 → FitsSigned w64 v.x1 → lt_z (code_read v.x1) (code_read v.x0) ≡ false → t.x0 ≤ℤ t.x1
branch_le t v e f g h = let e0 = ap (λ (z : Bounds). z.x0) e in let e1 = ap (λ (z : Bounds). z.x1) e in omega (arith, ints)

pub branch_lt : (t v : Bounds) → v ≡ t → FitsSigned w64 v.x0 → FitsSigned w64 v.x1 → lt_z (code_read v.x1) (code_read v.x0) ≡ true → t.x1 <ℤ t.x0
branch_lt t v e f g h = let e0 = ap (λ (z : Bounds). z.x0) e in let e1 = ap (λ (z : Bounds). z.x1) e in omega (arith, ints)

-- ---- what the public functions say of it
pub none_iff : (b : Bounds) (Q : ℤ → ℤ → Type 0) (r : Option Bounds) → ((x y : ℤ) → Within b x y ↔ Q x y)
    → (IsNone r → (x y : ℤ) → ¬ (Within b x y)) → IfSome r (IsTightened b) → IsNone r ↔ ((x y : ℤ) → ¬ (Q x y))
none_iff b Q None e n l = (λ h x y q. n refl x y ((e x y).1 q), λ h. refl)
none_iff b Q (Some o) e n l = (
  λ h. cc,
  λ h. absurd (h o.x0 (o.s0 -ℤ o.x0) ((e o.x0 (o.s0 -ℤ o.x0)).0 ((l.same o.x0 (o.s0 -ℤ o.x0)).0 (top_left_x o l.oct.tight)))),
)

pub some_iff : (b : Bounds) (Q : ℤ → ℤ → Type 0) (r : Option Bounds) → ((x y : ℤ) → Within b x y ↔ Q x y)
    → IfSome r (IsTightened b) → IfSome r (λ o. (x y : ℤ) → Within o x y ↔ Q x y)
some_iff b Q None e l = l
some_iff b Q (Some o) e l = λ x y. (λ w. (e x y).0 ((l.same x y).0 w), λ q. (l.same x y).1 ((e x y).1 q))

pub some_oct : (b : Bounds) (r : Option Bounds) → IfSome r (IsTightened b) → IfSome r (λ o. IsOct o)
some_oct b None l = l
some_oct b (Some o) l = l.oct

pub range_small : (b : Bounds) → AreInRange b → IsSmall b
range_small b r = record {
  x0 = record { low = omega (arith, ints); high = omega (arith, ints) };
  x1 = record { low = omega (arith, ints); high = omega (arith, ints) };
  y0 = record { low = omega (arith, ints); high = omega (arith, ints) };
  y1 = record { low = omega (arith, ints); high = omega (arith, ints) };
  s0 = record { low = omega (arith, ints); high = omega (arith, ints) };
  s1 = record { low = omega (arith, ints); high = omega (arith, ints) };
  d0 = record { low = omega (arith, ints); high = omega (arith, ints) };
  d1 = record { low = omega (arith, ints); high = omega (arith, ints) };
}

pub copy_same : (b : Bounds) → IsSmall b → (x y : ℤ) → Within (code_copy b) x y ↔ Within b x y
copy_same b m x y =
    let P : Bounds → Type 0 = λ z. Within z x y ↔ Within b x y in
    subst P (sym (copy_is b m)) (λ w. w, λ w. w)

abbrev code_plus : ℤ → ℤ
code_plus a = code_read (code_read a +ℤ pos 1)

abbrev code_minus : ℤ → ℤ
code_minus a = code_read (code_read a -ℤ pos 1)

plain_plus : (a : ℤ) → Small a → code_plus a ≡ a +ℤ pos 1
plain_plus a h = omega (arith, ints)

plain_minus : (a : ℤ) → Small a → code_minus a ≡ a -ℤ pos 1
plain_minus a h = omega (arith, ints)

pub fits_plus : (a : ℤ) → Small a → FitsSigned w64 (code_read a +ℤ pos 1)
fits_plus a h = omega (arith, ints)

pub fits_minus : (a : ℤ) → Small a → FitsSigned w64 (code_read a -ℤ pos 1)
fits_minus a h = omega (arith, ints)

abbrev pub code_opened : Bounds → Bounds
code_opened b =
    record {
      x0 = code_plus b.x0;
      x1 = code_minus b.x1;
      y0 = code_plus b.y0;
      y1 = code_minus b.y1;
      s0 = code_plus b.s0;
      s1 = code_minus b.s1;
      d0 = code_plus b.d0;
      d1 = code_minus b.d1;
    }

abbrev opened_of : Bounds → Bounds
opened_of b =
    record {
      x0 = b.x0 +ℤ pos 1;
      x1 = b.x1 -ℤ pos 1;
      y0 = b.y0 +ℤ pos 1;
      y1 = b.y1 -ℤ pos 1;
      s0 = b.s0 +ℤ pos 1;
      s1 = b.s1 -ℤ pos 1;
      d0 = b.d0 +ℤ pos 1;
      d1 = b.d1 -ℤ pos 1;
    }

code_opened-is : (b : Bounds) → IsSmall b → code_opened b ≡ opened_of b
code_opened-is b m = equal (code_opened b) (opened_of b) (record {
  x0 = plain_plus b.x0 m.x0;
  x1 = plain_minus b.x1 m.x1;
  y0 = plain_plus b.y0 m.y0;
  y1 = plain_minus b.y1 m.y1;
  s0 = plain_plus b.s0 m.s0;
  s1 = plain_minus b.s1 m.s1;
  d0 = plain_plus b.d0 m.d0;
  d1 = plain_minus b.d1 m.d1;
})

opened_strict : (b : Bounds) (x y : ℤ) → Within (opened_of b) x y → StrictlyWithin b x y
opened_strict b x y w = record {
  x_low = omega (arith, ints);
  x_high = omega (arith, ints);
  y_low = omega (arith, ints);
  y_high = omega (arith, ints);
  s_low = omega (arith, ints);
  s_high = omega (arith, ints);
  d_low = omega (arith, ints);
  d_high = omega (arith, ints);
}

strict_opened : (b : Bounds) (x y : ℤ) → StrictlyWithin b x y → Within (opened_of b) x y
strict_opened b x y w = record {
  x_low = omega (arith, ints);
  x_high = omega (arith, ints);
  y_low = omega (arith, ints);
  y_high = omega (arith, ints);
  s_low = omega (arith, ints);
  s_high = omega (arith, ints);
  d_low = omega (arith, ints);
  d_high = omega (arith, ints);
}

pub opened_same : (b : Bounds) → IsOct b → (x y : ℤ) → Within (code_opened b) x y ↔ StrictlyWithin b x y
opened_same b o x y =
    let P : Bounds → Type 0 = λ z. Within z x y ↔ StrictlyWithin b x y in
    subst P (sym (code_opened-is b (IsOct-IsSmall b o))) (opened_strict b x y, strict_opened b x y)

opened_of-IsTakeable : (b : Bounds) → IsOct b → IsTakeable (opened_of b)
opened_of-IsTakeable b o = record {
  small = record {
    x0 = record { low = omega (arith, ints); high = omega (arith, ints) };
    x1 = record { low = omega (arith, ints); high = omega (arith, ints) };
    y0 = record { low = omega (arith, ints); high = omega (arith, ints) };
    y1 = record { low = omega (arith, ints); high = omega (arith, ints) };
    s0 = record { low = omega (arith, ints); high = omega (arith, ints) };
    s1 = record { low = omega (arith, ints); high = omega (arith, ints) };
    d0 = record { low = omega (arith, ints); high = omega (arith, ints) };
    d1 = record { low = omega (arith, ints); high = omega (arith, ints) };
  };
  x_low = omega (arith, ints);
  x_high = omega (arith, ints);
  y_low = omega (arith, ints);
  y_high = omega (arith, ints);
}

pub code_opened-IsTakeable : (b : Bounds) → IsOct b → IsTakeable (code_opened b)
code_opened-IsTakeable b o =
    let P : Bounds → Type 0 = λ z. IsTakeable z in
    subst P (sym (code_opened-is b (IsOct-IsSmall b o))) (opened_of-IsTakeable b o)
