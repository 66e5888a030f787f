-- The rows that are found are those that cut.
use Rattle.std.proofs.Common.{◌≡◌, subst, refl, sym, ◌∙◌, ap, suc, ◌⊎◌, inl, inr, arith, List, [], ◌∷◌, ◌++◌, Bool, true, false}
use Rattle.std.specs.Prelude.{ℤ, pos, ◌+ℤ◌, ◌-ℤ◌, ◌*ℤ◌, ◌≤ℤ◌, int_lt, int_le, ◌&&◌, if◌then◌else◌, Contains}
use Rattle.std.specs.List.{All}
use Rattle.std.proofs.lemmas.Int.{ints, by_lt_z}
use Rattle.std.proofs.lemmas.Bool.{false≢true}
use native.Mathlib.Numerals.{unary_clauses}
use Rattle.plane.specs.Plane.{Bounds, Within, times, IsTight, IsOct}
use Rattle.plane.proofs.Times.{IsTight-times}
use Rattle.plane.proofs.Counts.{less_false, most_true, most_false}
use Rattle.strips.specs.Strips.{Direction, Level, Upright, Rising, Falling, in_nanometres}
use Rattle.strips.proofs.Cuts.{IsSideAt, IsCutAt}
use Rattle.strips.proofs.Lines.{upright_falling, upright_rising, rising_falling, cut_top, cut_bottom}
use Rattle.sheet_union.specs.Inner.Crossings.{is_within_twice, is_on_oct, met, on_rising, on_falling, on_slants, upright_rows, rising_rows, half_rows, crossing_rows, later_rows, cut_rows_of, all_rows}
use Rattle.sheet_union.specs.Inner.Rows.{AreFromTop}
use Rattle.sheet_union.proofs.Members.{IsOne, one_of, contains_of, one_left, one_right, one_cases, one_map, one_back}

-- ---- tests
pub both_true : (p q : Bool) → (p && q) ≡ true → (p ≡ true) × (q ≡ true)
both_true true q e = (refl, e)
both_true false q e = absurd (false≢true e)

le_from : (a b : ℤ) → int_le a b ≡ true → a ≤ℤ b
le_from a b e = by_lt_z {P = a ≤ℤ b} b a (λ l. absurd (false≢true (sym (most_false a b l) ∙ e))) (λ l. l)

between_from : (low v high : ℤ) → is_within_twice low v high ≡ true → ((pos 2 *ℤ low) ≤ℤ v) × (v ≤ℤ (pos 2 *ℤ high))
between_from low v high e = let w = both_true (int_le (pos 2 *ℤ low) v) (int_le v (pos 2 *ℤ high)) e in (le_from (pos 2 *ℤ low) v w.0, le_from v (pos 2 *ℤ high) w.1)

between_true : (low v high : ℤ) → (pos 2 *ℤ low) ≤ℤ v → v ≤ℤ (pos 2 *ℤ high) → is_within_twice low v high ≡ true
between_true low v high h k = rw (most_true (pos 2 *ℤ low) v h, most_true v (pos 2 *ℤ high) k) refl

on_from : (b : Bounds) (x y : ℤ) → is_on_oct b x y ≡ true → Within (times 2 b) x y
unfolding is_on_oct
on_from b x y e =
    let p = both_true (is_within_twice b.x0 x b.x1) (is_within_twice b.y0 y b.y1 && (is_within_twice b.s0 (x +ℤ y) b.s1 && is_within_twice b.d0 (x -ℤ y) b.d1)) e in
    let q = both_true (is_within_twice b.y0 y b.y1) (is_within_twice b.s0 (x +ℤ y) b.s1 && is_within_twice b.d0 (x -ℤ y) b.d1) p.1 in
    let r = both_true (is_within_twice b.s0 (x +ℤ y) b.s1) (is_within_twice b.d0 (x -ℤ y) b.d1) q.1 in
    let f = between_from b.x0 x b.x1 p.0 in
    let g = between_from b.y0 y b.y1 q.0 in
    let h = between_from b.s0 (x +ℤ y) b.s1 r.0 in
    let k = between_from b.d0 (x -ℤ y) b.d1 r.1 in
    record { x_low = f.0; x_high = f.1; y_low = g.0; y_high = g.1; s_low = h.0; s_high = h.1; d_low = k.0; d_high = k.1 }

on_true : (b : Bounds) (x y : ℤ) → Within (times 2 b) x y → is_on_oct b x y ≡ true
unfolding is_on_oct
on_true b x y w =
    rw (between_true b.x0 x b.x1 w.x_low w.x_high, between_true b.y0 y b.y1 w.y_low w.y_high, between_true b.s0 (x +ℤ y) b.s1 w.s_low w.s_high, between_true b.d0 (x -ℤ y) b.d1 w.d_low w.d_high) refl

-- ---- one place
met_from : (a b : Bounds) (x y r : ℤ) → IsOne (met a b x y) r → (r ≡ y) × Within (times 2 a) x y × Within (times 2 b) x y
unfolding met IsOne
met_from a b x y r i = go (is_on_oct a x y) (is_on_oct b x y) refl refl i
  where
    go : (p q : Bool) → is_on_oct a x y ≡ p → is_on_oct b x y ≡ q → IsOne (if p then (if q then y ∷ [] else []) else []) r
        → (r ≡ y) × Within (times 2 a) x y × Within (times 2 b) x y
    go true true e f (inl g) = (g, on_from a x y e, on_from b x y f)
    go true true e f (inr g) = absurd g
    go true false e f g = absurd g
    go false q e f g = absurd g

met_in : (a b : Bounds) (x y : ℤ) → Within (times 2 a) x y → Within (times 2 b) x y → IsOne (met a b x y) y
unfolding met IsOne
met_in a b x y v w = rw (on_true a x y v, on_true b x y w) (inl refl)

-- ---- each row that is found cuts
-- an octagon of the list
abbrev IsOf : List Bounds → Bounds → Type 0
IsOf os a = Contains (in_nanometres os) (times 2 a)

twice_either : (x u v : ℤ) → ((x ≡ u) ⊎ (x ≡ v)) → ((pos 2 *ℤ x ≡ pos 2 *ℤ u) ⊎ (pos 2 *ℤ x ≡ pos 2 *ℤ v))
twice_either x u v (inl e) = inl (ap (λ (z : ℤ). pos 2 *ℤ z) e)
twice_either x u v (inr e) = inr (ap (λ (z : ℤ). pos 2 *ℤ z) e)

either_is : (z w u v : ℤ) → z ≡ w → ((w ≡ u) ⊎ (w ≡ v)) → ((z ≡ u) ⊎ (z ≡ v))
either_is z w u v e (inl f) = inl (e ∙ f)
either_is z w u v e (inr f) = inr (e ∙ f)

rising_cut : (os : List Bounds) (a b : Bounds) (x d r : ℤ) → IsOf os a → IsOf os b → ((x ≡ a.x0) ⊎ (x ≡ a.x1)) → ((d ≡ b.d0) ⊎ (d ≡ b.d1))
    → IsOne (on_rising a b x d) r → IsCutAt (in_nanometres os) r
unfolding IsCutAt IsSideAt
rising_cut os a b x d r f g h k i =
    let w = met_from a b (pos 2 *ℤ x) (pos 2 *ℤ x -ℤ pos 2 *ℤ d) r i in
    subst (IsCutAt (in_nanometres os)) (sym w.0) (
      times 2 a,
      times 2 b,
      Upright,
      Rising,
      pos 2 *ℤ x,
      f,
      g,
      upright_rising,
      (w.1, twice_either x a.x0 a.x1 h),
      (w.2, either_is (pos 2 *ℤ x -ℤ (pos 2 *ℤ x -ℤ pos 2 *ℤ d)) (pos 2 *ℤ d) (pos 2 *ℤ b.d0) (pos 2 *ℤ b.d1) (omega (arith, ints)) (twice_either d b.d0 b.d1 k)),
    )

falling_cut : (os : List Bounds) (a b : Bounds) (x s r : ℤ) → IsOf os a → IsOf os b → ((x ≡ a.x0) ⊎ (x ≡ a.x1)) → ((s ≡ b.s0) ⊎ (s ≡ b.s1))
    → IsOne (on_falling a b x s) r → IsCutAt (in_nanometres os) r
unfolding IsCutAt IsSideAt
falling_cut os a b x s r f g h k i =
    let w = met_from a b (pos 2 *ℤ x) (pos 2 *ℤ s -ℤ pos 2 *ℤ x) r i in
    subst (IsCutAt (in_nanometres os)) (sym w.0) (
      times 2 a,
      times 2 b,
      Upright,
      Falling,
      pos 2 *ℤ x,
      f,
      g,
      upright_falling,
      (w.1, twice_either x a.x0 a.x1 h),
      (w.2, either_is (pos 2 *ℤ x +ℤ (pos 2 *ℤ s -ℤ pos 2 *ℤ x)) (pos 2 *ℤ s) (pos 2 *ℤ b.s0) (pos 2 *ℤ b.s1) (omega (arith, ints)) (twice_either s b.s0 b.s1 k)),
    )

slants_cut : (os : List Bounds) (a b : Bounds) (d s r : ℤ) → IsOf os a → IsOf os b → ((d ≡ a.d0) ⊎ (d ≡ a.d1)) → ((s ≡ b.s0) ⊎ (s ≡ b.s1))
    → IsOne (on_slants a b d s) r → IsCutAt (in_nanometres os) r
unfolding IsCutAt IsSideAt
slants_cut os a b d s r f g h k i =
    let w = met_from a b (s +ℤ d) (s -ℤ d) r i in
    subst (IsCutAt (in_nanometres os)) (sym w.0) (
      times 2 a,
      times 2 b,
      Rising,
      Falling,
      s +ℤ d,
      f,
      g,
      rising_falling,
      (w.1, either_is ((s +ℤ d) -ℤ (s -ℤ d)) (pos 2 *ℤ d) (pos 2 *ℤ a.d0) (pos 2 *ℤ a.d1) (omega (arith, ints)) (twice_either d a.d0 a.d1 h)),
      (w.2, either_is ((s +ℤ d) +ℤ (s -ℤ d)) (pos 2 *ℤ s) (pos 2 *ℤ b.s0) (pos 2 *ℤ b.s1) (omega (arith, ints)) (twice_either s b.s0 b.s1 k)),
    )

upright_cut : (os : List Bounds) (a b : Bounds) (x r : ℤ) → IsOf os a → IsOf os b → ((x ≡ a.x0) ⊎ (x ≡ a.x1)) → IsOne (upright_rows a b x) r → IsCutAt (in_nanometres os) r
unfolding upright_rows
upright_cut os a b x r f g h i =
    let p = on_rising a b x b.d0 in
    let q = on_rising a b x b.d1 in
    let s = on_falling a b x b.s0 in
    let t = on_falling a b x b.s1 in
    elim (one_cases ((p ++ q) ++ s) t r i) [
      | inr j ↦ falling_cut os a b x b.s1 r f g h (inr refl) j
      | inl j ↦ elim (one_cases (p ++ q) s r j) [
        | inr k ↦ falling_cut os a b x b.s0 r f g h (inl refl) k
        | inl k ↦ elim (one_cases p q r k) [ inr m ↦ rising_cut os a b x b.d1 r f g h (inr refl) m | inl m ↦ rising_cut os a b x b.d0 r f g h (inl refl) m ]
      ]
    ]

rising_rows_cut : (os : List Bounds) (a b : Bounds) (d r : ℤ) → IsOf os a → IsOf os b → ((d ≡ a.d0) ⊎ (d ≡ a.d1)) → IsOne (rising_rows a b d) r → IsCutAt (in_nanometres os) r
unfolding rising_rows
rising_rows_cut os a b d r f g h i =
    elim (one_cases (on_slants a b d b.s0) (on_slants a b d b.s1) r i) [ inl j ↦ slants_cut os a b d b.s0 r f g h (inl refl) j | inr j ↦ slants_cut os a b d b.s1 r f g h (inr refl) j ]

half_cut : (os : List Bounds) (a b : Bounds) (r : ℤ) → IsOf os a → IsOf os b → IsOne (half_rows a b) r → IsCutAt (in_nanometres os) r
unfolding half_rows
half_cut os a b r f g i =
    let p = upright_rows a b a.x0 in
    let q = upright_rows a b a.x1 in
    let s = rising_rows a b a.d0 in
    let t = rising_rows a b a.d1 in
    elim (one_cases ((p ++ q) ++ s) t r i) [
      | inr j ↦ rising_rows_cut os a b a.d1 r f g (inr refl) j
      | inl j ↦ elim (one_cases (p ++ q) s r j) [
        | inr k ↦ rising_rows_cut os a b a.d0 r f g (inl refl) k
        | inl k ↦ elim (one_cases p q r k) [ inr m ↦ upright_cut os a b a.x1 r f g (inr refl) m | inl m ↦ upright_cut os a b a.x0 r f g (inl refl) m ]
      ]
    ]

if_none : {P : Type 0} (t : Bool) (xs : List ℤ) (r : ℤ) → IsOne (if t then [] else xs) r → (IsOne xs r → P) → P
unfolding IsOne
if_none true xs r i f = absurd i
if_none false xs r i f = f i

crossing_cut : (os : List Bounds) (a b : Bounds) (r : ℤ) → IsOf os a → IsOf os b → IsOne (crossing_rows a b) r → IsCutAt (in_nanometres os) r
unfolding crossing_rows
crossing_cut os a b r f g i =
    if_none (int_lt a.x1 b.x0) (if int_lt b.x1 a.x0 then [] else half_rows a b ++ half_rows b a) r i
    (λ j. if_none (int_lt b.x1 a.x0) (half_rows a b ++ half_rows b a) r j
    (λ k. elim (one_cases (half_rows a b) (half_rows b a) r k) [ inl m ↦ half_cut os a b r f g m | inr m ↦ half_cut os b a r g f m ]))

later_cut : (os : List Bounds) (a : Bounds) (bs : List Bounds) (r : ℤ) → IsOf os a → ((b : Bounds) → IsOne bs b → IsOf os b) → IsOne (later_rows a bs) r → IsCutAt (in_nanometres os) r
unfolding later_rows IsOne
later_cut os a [] r f g i = absurd i
later_cut os a (b ∷ bs) r f g i =
    if_none (int_lt a.y1 b.y0) (crossing_rows a b ++ later_rows a bs) r i
    (λ j. elim (one_cases (crossing_rows a b) (later_rows a bs) r j) [
      | inl k ↦ crossing_cut os a b r f (g b (inl refl)) k
      | inr k ↦ later_cut os a bs r f (λ c e. g c (inr e)) k
    ])

ends_cut : (os : List Bounds) (a : Bounds) (r : ℤ) → IsTight a → IsOf os a → IsOne ((pos 2 *ℤ a.y0) ∷ (pos 2 *ℤ a.y1) ∷ []) r → IsCutAt (in_nanometres os) r
unfolding IsOne
ends_cut os a r t f (inl e) = subst (IsCutAt (in_nanometres os)) (sym e) (cut_top (in_nanometres os) (times 2 a) f (IsTight-times 2 a t))
ends_cut os a r t f (inr (inl e)) = subst (IsCutAt (in_nanometres os)) (sym e) (cut_bottom (in_nanometres os) (times 2 a) f (IsTight-times 2 a t))
ends_cut os a r t f (inr (inr e)) = absurd e

rows_cut : (os : List Bounds) (a : Bounds) (bs : List Bounds) (r : ℤ) → IsTight a → IsOf os a → ((b : Bounds) → IsOne bs b → IsOf os b) → IsOne (cut_rows_of a bs) r → IsCutAt (in_nanometres os) r
unfolding cut_rows_of
rows_cut os a bs r t f g i =
    let e = (pos 2 *ℤ a.y0) ∷ (pos 2 *ℤ a.y1) ∷ [] in
    elim (one_cases (e ++ half_rows a a) (later_rows a bs) r i) [
      | inr j ↦ later_cut os a bs r f g j
      | inl j ↦ elim (one_cases e (half_rows a a) r j) [ inr k ↦ half_cut os a a r f f k | inl k ↦ ends_cut os a r t f k ]
    ]

tail_all : {X : Type 0} (P : X → Type 0) (x : X) (xs : List X) → All P (x ∷ xs) → All P xs
tail_all P x xs h k d l = h (suc k) d (omega (arith, l))

all_cut : (os bs : List Bounds) (r : ℤ) → All IsOct bs → ((b : Bounds) → IsOne bs b → IsOf os b) → IsOne (all_rows bs) r → IsCutAt (in_nanometres os) r
unfolding all_rows IsOne
all_cut os [] r t g i = absurd i
all_cut os (a ∷ bs) r t g i =
    elim (one_cases (cut_rows_of a bs) (all_rows bs) r i) [
      | inl j ↦ rows_cut os a bs r (t 0 a (omega arith)).tight (g a (inl refl)) (λ c e. g c (inr e)) j
      | inr j ↦ all_cut os bs r (tail_all IsOct a bs t) (λ c e. g c (inr e)) j
    ]

pub found_cut : (os : List Bounds) (r : ℤ) → All IsOct os → Contains (all_rows os) r → IsCutAt (in_nanometres os) r
found_cut os r t c = all_cut os os r t (λ b e. contains_of (in_nanometres os) (times 2 b) (one_map (times 2) os b e)) (one_of (all_rows os) r c)

-- ---- each row that cuts is found
-- the two have a row and a column in common
record IsBeside (a b : Bounds) : Type 0 where
  x_ab : a.x0 ≤ℤ b.x1
  x_ba : b.x0 ≤ℤ a.x1
  y_ab : a.y0 ≤ℤ b.y1
  y_ba : b.y0 ≤ℤ a.y1

beside : (a b : Bounds) (x r : ℤ) → Within (times 2 a) x r → Within (times 2 b) x r → IsBeside a b
beside a b x r v w =
    let a0 = v.x_low in
    let a1 = v.x_high in
    let a2 = v.y_low in
    let a3 = v.y_high in
    let b0 = w.x_low in
    let b1 = w.x_high in
    let b2 = w.y_low in
    let b3 = w.y_high in
    record { x_ab = omega (arith, ints, a0, b1); x_ba = omega (arith, ints, b0, a1); y_ab = omega (arith, ints, a2, b3); y_ba = omega (arith, ints, b2, a3) }

turned : (a b : Bounds) → IsBeside a b → IsBeside b a
turned a b h = record { x_ab = h.x_ba; x_ba = h.x_ab; y_ab = h.y_ba; y_ba = h.y_ab }

crossing_half : (a b : Bounds) (r : ℤ) → IsBeside a b → (IsOne (half_rows a b) r ⊎ IsOne (half_rows b a) r) → IsOne (crossing_rows a b) r
unfolding crossing_rows
crossing_half a b r h i =
    rw (less_false a.x1 b.x0 h.x_ba, less_false b.x1 a.x0 h.x_ab)
    (elim i [ inl j ↦ one_left (half_rows a b) (half_rows b a) r j | inr j ↦ one_right (half_rows a b) (half_rows b a) r j ])

pub tail_from_top : (b : Bounds) (bs : List Bounds) → AreFromTop (b ∷ bs) → AreFromTop bs
tail_from_top b bs h k d l = simp unary_clauses (let m = h (suc k) d (omega (arith, l)) in simp unary_clauses at m)

pub below_first : (b : Bounds) (bs : List Bounds) (c : Bounds) → AreFromTop (b ∷ bs) → IsOne bs c → b.y0 ≤ℤ c.y0
unfolding IsOne
below_first b [] c h i = absurd i
below_first b (d ∷ bs) c h (inl e) = let m = h 0 b (omega arith) in subst (λ (z : Bounds). b.y0 ≤ℤ z.y0) (sym e) m
below_first b (d ∷ bs) c h (inr i) =
    let m : b.y0 ≤ℤ d.y0 = h 0 b (omega arith) in
    let n = below_first d bs c (tail_from_top b (d ∷ bs) h) i in
    omega (arith, ints, m, n)

later_in : (a b : Bounds) (bs : List Bounds) (r : ℤ) → AreFromTop bs → IsOne bs b → b.y0 ≤ℤ a.y1 → IsOne (crossing_rows a b) r → IsOne (later_rows a bs) r
unfolding later_rows IsOne
later_in a b [] r h i l j = absurd i
later_in a b (c ∷ bs) r h (inl e) l j =
    let k : c.y0 ≤ℤ a.y1 = subst (λ (z : Bounds). z.y0 ≤ℤ a.y1) e l in
    rw (less_false a.y1 c.y0 k) (one_left (crossing_rows a c) (later_rows a bs) r (subst (λ (z : Bounds). IsOne (crossing_rows a z) r) e j))
later_in a b (c ∷ bs) r h (inr i) l j =
    let m = below_first c bs b h i in
    let k : c.y0 ≤ℤ a.y1 = omega (arith, ints, m, l) in
    rw (less_false a.y1 c.y0 k) (one_right (crossing_rows a c) (later_rows a bs) r (later_in a b bs r (tail_from_top c bs h) i l j))

own_in : (a : Bounds) (bs : List Bounds) (r : ℤ) → IsOne (half_rows a a) r → IsOne (cut_rows_of a bs) r
unfolding cut_rows_of
own_in a bs r i =
    let e = (pos 2 *ℤ a.y0) ∷ (pos 2 *ℤ a.y1) ∷ [] in
    one_left (e ++ half_rows a a) (later_rows a bs) r (one_right e (half_rows a a) r i)

with_later : (a : Bounds) (bs : List Bounds) (r : ℤ) → IsOne (later_rows a bs) r → IsOne (cut_rows_of a bs) r
unfolding cut_rows_of
with_later a bs r i = one_right (((pos 2 *ℤ a.y0) ∷ (pos 2 *ℤ a.y1) ∷ []) ++ half_rows a a) (later_rows a bs) r i

half_in : (a b : Bounds) (bs : List Bounds) (r : ℤ) → AreFromTop bs → IsOne bs a → IsOne bs b → IsBeside a b → IsOne (half_rows a b) r → IsOne (all_rows bs) r
unfolding all_rows IsOne
half_in a b [] r h i j s k = absurd i
half_in a b (c ∷ bs) r h (inl e) (inl f) s k =
    one_left (cut_rows_of c bs) (all_rows bs) r (own_in c bs r (subst (λ (z : Bounds). IsOne (half_rows z c) r) e (subst (λ (z : Bounds). IsOne (half_rows a z) r) f k)))
half_in a b (c ∷ bs) r h (inl e) (inr j) s k =
    one_left (cut_rows_of c bs) (all_rows bs) r
    (subst (λ (z : Bounds). IsOne (cut_rows_of z bs) r) e
    (with_later a bs r (later_in a b bs r (tail_from_top c bs h) j s.y_ba (crossing_half a b r s (inl k)))))
half_in a b (c ∷ bs) r h (inr i) (inl f) s k =
    one_left (cut_rows_of c bs) (all_rows bs) r
    (subst (λ (z : Bounds). IsOne (cut_rows_of z bs) r) f
    (with_later b bs r (later_in b a bs r (tail_from_top c bs h) i s.y_ab (crossing_half b a r (turned a b s) (inr k)))))
half_in a b (c ∷ bs) r h (inr i) (inr j) s k = one_right (cut_rows_of c bs) (all_rows bs) r (half_in a b bs r (tail_from_top c bs h) i j s k)

ends_in : (a : Bounds) (bs : List Bounds) (r : ℤ) → IsOne bs a → ((r ≡ pos 2 *ℤ a.y0) ⊎ (r ≡ pos 2 *ℤ a.y1)) → IsOne (all_rows bs) r
unfolding all_rows cut_rows_of IsOne
ends_in a [] r i e = absurd i
ends_in a (c ∷ bs) r (inl f) e =
    let p = (pos 2 *ℤ c.y0) ∷ (pos 2 *ℤ c.y1) ∷ [] in
    one_left (cut_rows_of c bs) (all_rows bs) r
    (one_left (p ++ half_rows c c) (later_rows c bs) r
    (one_left p (half_rows c c) r (elim e [
      | inl g ↦ inl (subst (λ (z : Bounds). r ≡ pos 2 *ℤ z.y0) f g)
      | inr g ↦ inr (inl (subst (λ (z : Bounds). r ≡ pos 2 *ℤ z.y1) f g))
    ])))
ends_in a (c ∷ bs) r (inr i) e = one_right (cut_rows_of c bs) (all_rows bs) r (ends_in a bs r i e)

-- ---- from two sides to the place
half_x : (x u v : ℤ) → ((x ≡ pos 2 *ℤ u) ⊎ (x ≡ pos 2 *ℤ v)) → (z : ℤ) × ((z ≡ u) ⊎ (z ≡ v)) × (x ≡ pos 2 *ℤ z)
half_x x u v (inl e) = (u, inl refl, e)
half_x x u v (inr e) = (v, inr refl, e)

in_upright : (a b : Bounds) (x r : ℤ) → IsOne (upright_rows a b a.x0) r ⊎ IsOne (upright_rows a b a.x1) r → IsOne (half_rows a b) r
unfolding half_rows
in_upright a b x r i =
    let p = upright_rows a b a.x0 in
    let q = upright_rows a b a.x1 in
    let s = rising_rows a b a.d0 in
    let t = rising_rows a b a.d1 in
    one_left ((p ++ q) ++ s) t r (one_left (p ++ q) s r (elim i [ inl j ↦ one_left p q r j | inr j ↦ one_right p q r j ]))

in_rising : (a b : Bounds) (r : ℤ) → IsOne (rising_rows a b a.d0) r ⊎ IsOne (rising_rows a b a.d1) r → IsOne (half_rows a b) r
unfolding half_rows
in_rising a b r i =
    let p = upright_rows a b a.x0 in
    let q = upright_rows a b a.x1 in
    let s = rising_rows a b a.d0 in
    let t = rising_rows a b a.d1 in
    elim i [ inl j ↦ one_left ((p ++ q) ++ s) t r (one_right (p ++ q) s r j) | inr j ↦ one_right ((p ++ q) ++ s) t r j ]

by_x : (a b : Bounds) (x r : ℤ) → ((x ≡ a.x0) ⊎ (x ≡ a.x1)) → IsOne (upright_rows a b x) r → IsOne (half_rows a b) r
by_x a b x r (inl e) i = in_upright a b x r (inl (subst (λ (z : ℤ). IsOne (upright_rows a b z) r) e i))
by_x a b x r (inr e) i = in_upright a b x r (inr (subst (λ (z : ℤ). IsOne (upright_rows a b z) r) e i))

by_d : (a b : Bounds) (d r : ℤ) → ((d ≡ a.d0) ⊎ (d ≡ a.d1)) → IsOne (rising_rows a b d) r → IsOne (half_rows a b) r
by_d a b d r (inl e) i = in_rising a b r (inl (subst (λ (z : ℤ). IsOne (rising_rows a b z) r) e i))
by_d a b d r (inr e) i = in_rising a b r (inr (subst (λ (z : ℤ). IsOne (rising_rows a b z) r) e i))

rising_in : (a b : Bounds) (x d r : ℤ) → ((d ≡ b.d0) ⊎ (d ≡ b.d1)) → IsOne (on_rising a b x d) r → IsOne (upright_rows a b x) r
unfolding upright_rows
rising_in a b x d r h i =
    let p = on_rising a b x b.d0 in
    let q = on_rising a b x b.d1 in
    let s = on_falling a b x b.s0 in
    let t = on_falling a b x b.s1 in
    one_left ((p ++ q) ++ s) t r (one_left (p ++ q) s r (elim h [
      | inl e ↦ one_left p q r (subst (λ (z : ℤ). IsOne (on_rising a b x z) r) e i)
      | inr e ↦ one_right p q r (subst (λ (z : ℤ). IsOne (on_rising a b x z) r) e i)
    ]))

falling_in : (a b : Bounds) (x s r : ℤ) → ((s ≡ b.s0) ⊎ (s ≡ b.s1)) → IsOne (on_falling a b x s) r → IsOne (upright_rows a b x) r
unfolding upright_rows
falling_in a b x v r h i =
    let p = on_rising a b x b.d0 in
    let q = on_rising a b x b.d1 in
    let s = on_falling a b x b.s0 in
    let t = on_falling a b x b.s1 in
    elim h [
      | inl e ↦ one_left ((p ++ q) ++ s) t r (one_right (p ++ q) s r (subst (λ (z : ℤ). IsOne (on_falling a b x z) r) e i))
      | inr e ↦ one_right ((p ++ q) ++ s) t r (subst (λ (z : ℤ). IsOne (on_falling a b x z) r) e i)
    ]

slants_in : (a b : Bounds) (d s r : ℤ) → ((s ≡ b.s0) ⊎ (s ≡ b.s1)) → IsOne (on_slants a b d s) r → IsOne (rising_rows a b d) r
unfolding rising_rows
slants_in a b d s r (inl e) i = one_left (on_slants a b d b.s0) (on_slants a b d b.s1) r (subst (λ (z : ℤ). IsOne (on_slants a b d z) r) e i)
slants_in a b d s r (inr e) i = one_right (on_slants a b d b.s0) (on_slants a b d b.s1) r (subst (λ (z : ℤ). IsOne (on_slants a b d z) r) e i)

-- the row of a place that is spelled in two ways
at_place : (a b : Bounds) (x r u v : ℤ) → u ≡ x → v ≡ r → Within (times 2 a) x r → Within (times 2 b) x r → IsOne (met a b u v) r
at_place a b x r u v e f g h = rw (e, f) (met_in a b x r g h)

upright_rising_in : (a b : Bounds) (x r : ℤ) → Within (times 2 a) x r → Within (times 2 b) x r
    → ((x ≡ pos 2 *ℤ a.x0) ⊎ (x ≡ pos 2 *ℤ a.x1)) → ((x -ℤ r ≡ pos 2 *ℤ b.d0) ⊎ (x -ℤ r ≡ pos 2 *ℤ b.d1)) → IsOne (half_rows a b) r
upright_rising_in a b x r v w h k =
    let p = half_x x a.x0 a.x1 h in
    let q = half_x (x -ℤ r) b.d0 b.d1 k in
    let e = p.2 in
    let f = q.2 in
    by_x a b p.0 r p.1 (rising_in a b p.0 q.0 r q.1 (at_place a b x r (pos 2 *ℤ p.0) (pos 2 *ℤ p.0 -ℤ pos 2 *ℤ q.0) (sym e) (omega (arith, ints, e, f)) v w))

upright_falling_in : (a b : Bounds) (x r : ℤ) → Within (times 2 a) x r → Within (times 2 b) x r
    → ((x ≡ pos 2 *ℤ a.x0) ⊎ (x ≡ pos 2 *ℤ a.x1)) → ((x +ℤ r ≡ pos 2 *ℤ b.s0) ⊎ (x +ℤ r ≡ pos 2 *ℤ b.s1)) → IsOne (half_rows a b) r
upright_falling_in a b x r v w h k =
    let p = half_x x a.x0 a.x1 h in
    let q = half_x (x +ℤ r) b.s0 b.s1 k in
    let e = p.2 in
    let f = q.2 in
    by_x a b p.0 r p.1 (falling_in a b p.0 q.0 r q.1 (at_place a b x r (pos 2 *ℤ p.0) (pos 2 *ℤ q.0 -ℤ pos 2 *ℤ p.0) (sym e) (omega (arith, ints, e, f)) v w))

rising_falling_in : (a b : Bounds) (x r : ℤ) → Within (times 2 a) x r → Within (times 2 b) x r
    → ((x -ℤ r ≡ pos 2 *ℤ a.d0) ⊎ (x -ℤ r ≡ pos 2 *ℤ a.d1)) → ((x +ℤ r ≡ pos 2 *ℤ b.s0) ⊎ (x +ℤ r ≡ pos 2 *ℤ b.s1)) → IsOne (half_rows a b) r
rising_falling_in a b x r v w h k =
    let p = half_x (x -ℤ r) a.d0 a.d1 h in
    let q = half_x (x +ℤ r) b.s0 b.s1 k in
    let e = p.2 in
    let f = q.2 in
    by_d a b p.0 r p.1 (slants_in a b p.0 q.0 r q.1 (at_place a b x r (q.0 +ℤ p.0) (q.0 -ℤ p.0) (omega (arith, ints, e, f)) (omega (arith, ints, e, f)) v w))

sides_in : (os : List Bounds) (a b : Bounds) (i j : Direction) (x r : ℤ) → AreFromTop os → IsOne os a → IsOne os b → (i ≡ j → ⊥)
    → IsSideAt (times 2 a) i x r → IsSideAt (times 2 b) j x r → IsOne (all_rows os) r
unfolding IsSideAt
sides_in os a b Level j x r h f g n s t = ends_in a os r f s.1
sides_in os a b Upright Level x r h f g n s t = ends_in b os r g t.1
sides_in os a b Rising Level x r h f g n s t = ends_in b os r g t.1
sides_in os a b Falling Level x r h f g n s t = ends_in b os r g t.1
sides_in os a b Upright Upright x r h f g n s t = absurd (n refl)
sides_in os a b Rising Rising x r h f g n s t = absurd (n refl)
sides_in os a b Falling Falling x r h f g n s t = absurd (n refl)
sides_in os a b Upright Rising x r h f g n s t = half_in a b os r h f g (beside a b x r s.0 t.0) (upright_rising_in a b x r s.0 t.0 s.1 t.1)
sides_in os a b Upright Falling x r h f g n s t = half_in a b os r h f g (beside a b x r s.0 t.0) (upright_falling_in a b x r s.0 t.0 s.1 t.1)
sides_in os a b Rising Falling x r h f g n s t = half_in a b os r h f g (beside a b x r s.0 t.0) (rising_falling_in a b x r s.0 t.0 s.1 t.1)
sides_in os a b Rising Upright x r h f g n s t = half_in b a os r h g f (beside b a x r t.0 s.0) (upright_rising_in b a x r t.0 s.0 t.1 s.1)
sides_in os a b Falling Upright x r h f g n s t = half_in b a os r h g f (beside b a x r t.0 s.0) (upright_falling_in b a x r t.0 s.0 t.1 s.1)
sides_in os a b Falling Rising x r h f g n s t = half_in b a os r h g f (beside b a x r t.0 s.0) (rising_falling_in b a x r t.0 s.0 t.1 s.1)

pub cut_found : (os : List Bounds) (r : ℤ) → AreFromTop os → IsCutAt (in_nanometres os) r → Contains (all_rows os) r
unfolding IsCutAt
cut_found os r h c =
    let p = one_back (times 2) os c.0 (one_of (in_nanometres os) c.0 c.5) in
    let q = one_back (times 2) os c.1 (one_of (in_nanometres os) c.1 c.6) in
    contains_of (all_rows os) r
    (sides_in os p.0 q.0 c.2 c.3 c.4 r h p.1 q.1 c.7
    (subst (λ (z : Bounds). IsSideAt z c.2 c.4 r) p.2 c.8) (subst (λ (z : Bounds). IsSideAt z c.3 c.4 r) q.2 c.9))
