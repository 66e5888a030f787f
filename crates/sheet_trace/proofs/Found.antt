-- The strip that has copper below or above a corner's row is found among those in order.
use Rattle.std.proofs.Common.{◌≡◌, refl, sym, subst, ap, ◌∙◌, ℕ, zero, suc, ◌-◌, ◌<◌, ◌≤◌, ◌⊎◌, inl, inr, arith, List, [], ◌∷◌, length, get_or, Bool, true, false}
use Rattle.std.specs.Prelude.{◌≤ℤ◌, ◌<ℤ◌, ◌||◌, nat_lt}
use Rattle.std.specs.List.Sorted.{IsPartitionedBy, IsPartitionPoint}
use Rattle.std.proofs.lemmas.Int.{ints, by_lt_z}
use Rattle.std.proofs.lemmas.Bool.{false≢true, cases_lt}
use Rattle.grid_num.specs.declared.Point.{Point}
use Rattle.strips.specs.declared.Strip.{Strip}
use Rattle.strips.specs.Strips.{IsTrapezoid, IsStripBefore}
use Rattle.sheet_union.specs.Near.{IsSheet}
use Rattle.sheet_trace.specs.Inner.Levels.{begins_by, ends_by, begins_under, ends_over, has_below, has_above}

pub bool_cases : (b : Bool) → (b ≡ true) ⊎ (b ≡ false)
bool_cases true = inl refl
bool_cases false = inr refl

same_bool : (b c : Bool) → (b ≡ true → c ≡ true) → (c ≡ true → b ≡ true) → b ≡ c
same_bool true c f g = sym (f refl)
same_bool false true f g = g refl
same_bool false false f g = refl

pub none_before : (i : ℕ) → i ≤ 0 → nat_lt 0 i ≡ false
none_before zero l = refl
none_before (suc i) l = absurd (omega (arith, l))

or_true : (b : Bool) → (b || true) ≡ true
or_true true = refl
or_true false = refl

-- ---- the tests
pub under_told : (c : Point) (s : Strip) → begins_under c s ≡ true → (s.top ≡ c.y) × ((s.left ≤ℤ c.x) × (c.x <ℤ s.right))
unfolding begins_under
under_told c s h = (grind (arith, ints), (grind (arith, ints), grind (arith, ints)))

pub under_meets : (c : Point) (s : Strip) → s.top ≡ c.y → s.left ≤ℤ c.x → c.x <ℤ s.right → begins_under c s ≡ true
unfolding begins_under
under_meets c s t l r = grind (arith, ints)

pub over_told : (c : Point) (s : Strip) → ends_over c s ≡ true → (s.bottom ≡ c.y) × ((s.left_end ≤ℤ c.x) × (c.x <ℤ s.right_end))
unfolding ends_over
over_told c s h = (grind (arith, ints), (grind (arith, ints), grind (arith, ints)))

pub over_meets : (c : Point) (s : Strip) → s.bottom ≡ c.y → s.left_end ≤ℤ c.x → c.x <ℤ s.right_end → ends_over c s ≡ true
unfolding ends_over
over_meets c s t l r = grind (arith, ints)

by_meets_row : (c : Point) (s : Strip) → s.top ≡ c.y → s.left ≤ℤ c.x → begins_by c s ≡ true
unfolding begins_by
by_meets_row c s t l = grind (arith, ints)

by_meets_above : (c : Point) (s : Strip) → s.top <ℤ c.y → begins_by c s ≡ true
unfolding begins_by
by_meets_above c s t = grind (arith, ints)

by_not : (c : Point) (s : Strip) → begins_by c s ≡ true → (c.y <ℤ s.top → ⊥) × (s.top ≡ c.y → c.x <ℤ s.left → ⊥)
unfolding begins_by
by_not c s h = (λ l. grind (arith, ints), λ e l. grind (arith, ints))

ends_meets_row : (c : Point) (s : Strip) → s.bottom ≡ c.y → s.left_end ≤ℤ c.x → ends_by c s ≡ true
unfolding ends_by
ends_meets_row c s t l = grind (arith, ints)

ends_meets_above : (c : Point) (s : Strip) → s.bottom <ℤ c.y → ends_by c s ≡ true
unfolding ends_by
ends_meets_above c s t = grind (arith, ints)

ends_not : (c : Point) (s : Strip) → ends_by c s ≡ true → (c.y <ℤ s.bottom → ⊥) × (s.bottom ≡ c.y → c.x <ℤ s.left_end → ⊥)
unfolding ends_by
ends_not c s h = (λ l. grind (arith, ints), λ e l. grind (arith, ints))

-- ---- one of the strips below
pub below_at : (c : Point) (ss : List Strip) (k : ℕ) (d : Strip) → k < length ss → begins_under c (get_or ss k d) ≡ true → has_below c ss ≡ true
unfolding has_below
below_at c [] k d l h = absurd (omega (arith, l))
below_at c (s ∷ ss) zero d l h = ap (λ b. b || has_below c ss) h
below_at c (s ∷ ss) (suc k) d l h = ap (λ b. begins_under c s || b) (below_at c ss k d (omega (arith, l)) h) ∙ or_true (begins_under c s)

pub at_below : (c : Point) (ss : List Strip) (d : Strip) → has_below c ss ≡ true → (k : ℕ) × (k < length ss) × (begins_under c (get_or ss k d) ≡ true)
unfolding has_below
at_below c [] d h = absurd (false≢true h)
at_below c (s ∷ ss) d h = at (bool_cases (begins_under c s)) (at_below c ss d)
  where
    at : (begins_under c s ≡ true) ⊎ (begins_under c s ≡ false) → (has_below c ss ≡ true → (k : ℕ) × (k < length ss) × (begins_under c (get_or ss k d) ≡ true))
        → (k : ℕ) × (k < length (s ∷ ss)) × (begins_under c (get_or (s ∷ ss) k d) ≡ true)
    at (inl e) r = (0, omega arith, e)
    at (inr e) r = let f = r (ap (λ b. b || has_below c ss) (sym e) ∙ h) in (suc f.0, (let l = f.1 in omega (arith, l)), f.2)

-- of two strips in order, how the first rows lie
below_order : (a b : Strip) → IsTrapezoid a → IsTrapezoid b → IsStripBefore a b → (a.top <ℤ b.top) ⊎ ((a.top ≡ b.top) × (a.right ≤ℤ b.left))
below_order a b t u (inl h) = let d = t.down in inl (omega (arith, ints, h, d))
below_order a b t u (inr h) = inr (h.0, (h.2).start)

below_earlier : (c : Point) (a b : Strip) → IsTrapezoid a → IsTrapezoid b → IsStripBefore a b → begins_by c b ≡ true → begins_by c a ≡ true
below_earlier c a b t u o h = let n = by_not c b h in let w = t.start in elim (below_order a b t u o) [
  | inl l ↦ by_lt_z {P = begins_by c a ≡ true} a.top c.y (λ k. by_meets_above c a k) (λ k. absurd (n.0 (omega (arith, ints, k, l))))
  | inr e ↦ (let e0 = e.0 in let e1 = e.1 in by_lt_z {P = begins_by c a ≡ true} a.top c.y (λ k. by_meets_above c a k)
      (λ k. by_lt_z {P = begins_by c a ≡ true} c.y a.top (λ m. absurd (n.0 (omega (arith, ints, m, e0))))
      (λ m. by_lt_z {P = begins_by c a ≡ true} c.x a.left (λ q. absurd (n.1 (omega (arith, ints, k, m, e0)) (omega (arith, ints, q, e1, w)))) (λ q. by_meets_row c a (omega (arith, ints, k, m)) q))))
]

pub below_partitioned : (c : Point) (ss : List Strip) → IsSheet ss → IsPartitionedBy (λ s. begins_by c s) ss
below_partitioned c ss o i j d l m h = elim (cases_lt i j) [
  | inl g ↦ below_earlier c (get_or ss i d) (get_or ss j d) (o.shapes i d (omega (arith, g, m))) (o.shapes j d m) (o.order i j d g m) h
  | inr g ↦ (let e : j ≡ i = omega (arith, g, l) in subst (λ k. begins_by c (get_or ss k d) ≡ true) e h)
]

-- a strip that has it and a later one that begins by there: these are not two
below_last : (c : Point) (a b : Strip) → IsTrapezoid a → IsTrapezoid b → IsStripBefore a b → begins_under c a ≡ true → begins_by c b ≡ true → ⊥
below_last c a b t u o h k = let n = by_not c b k in let q = under_told c a h in let q0 = q.0 in let q1 = q.1.1 in elim (below_order a b t u o) [
  | inl l ↦ n.0 (omega (arith, ints, l, q0))
  | inr e ↦ (let e0 = e.0 in let e1 = e.1 in n.1 (omega (arith, ints, e0, q0)) (omega (arith, ints, e1, q1)))
]

-- the last strip that begins by there has it, if any has
pub below_found : (c : Point) (ss : List Strip) (i : ℕ) (d : Strip) → IsSheet ss → i ≤ length ss → IsPartitionPoint (λ s. begins_by c s ≡ true) (λ s. begins_by c s ≡ false) ss i → 0 < i
    → begins_under c (get_or ss (i - 1) d) ≡ has_below c ss
below_found c ss i d o b p g = same_bool (begins_under c (get_or ss (i - 1) d)) (has_below c ss) (λ h. below_at c ss (i - 1) d (omega (arith, g, b)) h) (λ h. at (at_below c ss d h))
  where
    at : (k : ℕ) × (k < length ss) × (begins_under c (get_or ss k d) ≡ true) → begins_under c (get_or ss (i - 1) d) ≡ true
    at (k, l, h) =
        let q = under_told c (get_or ss k d) h in
        elim (cases_lt k i) [
          | inr m ↦ absurd (false≢true (sym (p.1 k d m l) ∙ by_meets_row c (get_or ss k d) q.0 q.1.0))
          | inl m ↦ elim (cases_lt k (i - 1)) [
            | inl n ↦ absurd (below_last c (get_or ss k d) (get_or ss (i - 1) d) (o.shapes k d l) (o.shapes (i - 1) d (omega (arith, g, b))) (o.order k (i - 1) d n (omega (arith, g, b))) h
                (p.0 (i - 1) d (omega arith) (omega (arith, g))))
            | inr n ↦ (let e : k ≡ i - 1 = omega (arith, m, n) in subst (λ z. begins_under c (get_or ss z d) ≡ true) e h)
          ]
        ]

pub below_none : (c : Point) (ss : List Strip) (i : ℕ) → IsPartitionPoint (λ s. begins_by c s ≡ true) (λ s. begins_by c s ≡ false) ss i → i ≤ 0 → has_below c ss ≡ false
unfolding has_below
below_none c [] i p e = refl
below_none c (d ∷ ds) i p e = elim (bool_cases (has_below c (d ∷ ds))) [
  | inr h ↦ h
  | inl h ↦ (
      let f = at_below c (d ∷ ds) d h in
      let q = under_told c (get_or (d ∷ ds) f.0 d) f.2 in
      absurd (false≢true (sym (p.1 f.0 d (omega (arith, e)) f.1) ∙ by_meets_row c (get_or (d ∷ ds) f.0 d) q.0 q.1.0)))
]

-- ---- one of the strips above
pub above_at : (c : Point) (ss : List Strip) (k : ℕ) (d : Strip) → k < length ss → ends_over c (get_or ss k d) ≡ true → has_above c ss ≡ true
unfolding has_above
above_at c [] k d l h = absurd (omega (arith, l))
above_at c (s ∷ ss) zero d l h = ap (λ b. b || has_above c ss) h
above_at c (s ∷ ss) (suc k) d l h = ap (λ b. ends_over c s || b) (above_at c ss k d (omega (arith, l)) h) ∙ or_true (ends_over c s)

pub at_above : (c : Point) (ss : List Strip) (d : Strip) → has_above c ss ≡ true → (k : ℕ) × (k < length ss) × (ends_over c (get_or ss k d) ≡ true)
unfolding has_above
at_above c [] d h = absurd (false≢true h)
at_above c (s ∷ ss) d h = at (bool_cases (ends_over c s)) (at_above c ss d)
  where
    at : (ends_over c s ≡ true) ⊎ (ends_over c s ≡ false) → (has_above c ss ≡ true → (k : ℕ) × (k < length ss) × (ends_over c (get_or ss k d) ≡ true))
        → (k : ℕ) × (k < length (s ∷ ss)) × (ends_over c (get_or (s ∷ ss) k d) ≡ true)
    at (inl e) r = (0, omega arith, e)
    at (inr e) r = let f = r (ap (λ b. b || has_above c ss) (sym e) ∙ h) in (suc f.0, (let l = f.1 in omega (arith, l)), f.2)

-- of two strips in order, how the last rows lie
above_order : (a b : Strip) → IsTrapezoid a → IsTrapezoid b → IsStripBefore a b → (a.bottom <ℤ b.bottom) ⊎ ((a.bottom ≡ b.bottom) × (a.right_end ≤ℤ b.left_end))
above_order a b t u (inl h) = let d = u.down in inl (omega (arith, ints, h, d))
above_order a b t u (inr h) = inr (h.1, (h.2).finish)

above_earlier : (c : Point) (a b : Strip) → IsTrapezoid a → IsTrapezoid b → IsStripBefore a b → ends_by c b ≡ true → ends_by c a ≡ true
above_earlier c a b t u o h = let n = ends_not c b h in let w = t.finish in elim (above_order a b t u o) [
  | inl l ↦ by_lt_z {P = ends_by c a ≡ true} a.bottom c.y (λ k. ends_meets_above c a k) (λ k. absurd (n.0 (omega (arith, ints, k, l))))
  | inr e ↦ (let e0 = e.0 in let e1 = e.1 in by_lt_z {P = ends_by c a ≡ true} a.bottom c.y (λ k. ends_meets_above c a k)
      (λ k. by_lt_z {P = ends_by c a ≡ true} c.y a.bottom (λ m. absurd (n.0 (omega (arith, ints, m, e0))))
      (λ m. by_lt_z {P = ends_by c a ≡ true} c.x a.left_end (λ q. absurd (n.1 (omega (arith, ints, k, m, e0)) (omega (arith, ints, q, e1, w)))) (λ q. ends_meets_row c a (omega (arith, ints, k, m)) q))))
]

pub above_partitioned : (c : Point) (ss : List Strip) → IsSheet ss → IsPartitionedBy (λ s. ends_by c s) ss
above_partitioned c ss o i j d l m h = elim (cases_lt i j) [
  | inl g ↦ above_earlier c (get_or ss i d) (get_or ss j d) (o.shapes i d (omega (arith, g, m))) (o.shapes j d m) (o.order i j d g m) h
  | inr g ↦ (let e : j ≡ i = omega (arith, g, l) in subst (λ k. ends_by c (get_or ss k d) ≡ true) e h)
]

-- a strip that has it and a later one that ends by there: these are not two
above_last : (c : Point) (a b : Strip) → IsTrapezoid a → IsTrapezoid b → IsStripBefore a b → ends_over c a ≡ true → ends_by c b ≡ true → ⊥
above_last c a b t u o h k = let n = ends_not c b k in let q = over_told c a h in let q0 = q.0 in let q1 = q.1.1 in elim (above_order a b t u o) [
  | inl l ↦ n.0 (omega (arith, ints, l, q0))
  | inr e ↦ (let e0 = e.0 in let e1 = e.1 in n.1 (omega (arith, ints, e0, q0)) (omega (arith, ints, e1, q1)))
]

-- the last strip that ends by there has it, if any has
pub above_found : (c : Point) (ss : List Strip) (i : ℕ) (d : Strip) → IsSheet ss → i ≤ length ss → IsPartitionPoint (λ s. ends_by c s ≡ true) (λ s. ends_by c s ≡ false) ss i → 0 < i
    → ends_over c (get_or ss (i - 1) d) ≡ has_above c ss
above_found c ss i d o b p g = same_bool (ends_over c (get_or ss (i - 1) d)) (has_above c ss) (λ h. above_at c ss (i - 1) d (omega (arith, g, b)) h) (λ h. at (at_above c ss d h))
  where
    at : (k : ℕ) × (k < length ss) × (ends_over c (get_or ss k d) ≡ true) → ends_over c (get_or ss (i - 1) d) ≡ true
    at (k, l, h) =
        let q = over_told c (get_or ss k d) h in
        elim (cases_lt k i) [
          | inr m ↦ absurd (false≢true (sym (p.1 k d m l) ∙ ends_meets_row c (get_or ss k d) q.0 q.1.0))
          | inl m ↦ elim (cases_lt k (i - 1)) [
            | inl n ↦ absurd (above_last c (get_or ss k d) (get_or ss (i - 1) d) (o.shapes k d l) (o.shapes (i - 1) d (omega (arith, g, b))) (o.order k (i - 1) d n (omega (arith, g, b))) h
                (p.0 (i - 1) d (omega arith) (omega (arith, g))))
            | inr n ↦ (let e : k ≡ i - 1 = omega (arith, m, n) in subst (λ z. ends_over c (get_or ss z d) ≡ true) e h)
          ]
        ]

pub above_none : (c : Point) (ss : List Strip) (i : ℕ) → IsPartitionPoint (λ s. ends_by c s ≡ true) (λ s. ends_by c s ≡ false) ss i → i ≤ 0 → has_above c ss ≡ false
unfolding has_above
above_none c [] i p e = refl
above_none c (d ∷ ds) i p e = elim (bool_cases (has_above c (d ∷ ds))) [
  | inr h ↦ h
  | inl h ↦ (
      let f = at_above c (d ∷ ds) d h in
      let q = over_told c (get_or (d ∷ ds) f.0 d) f.2 in
      absurd (false≢true (sym (p.1 f.0 d (omega (arith, e)) f.1) ∙ ends_meets_row c (get_or (d ∷ ds) f.0 d) q.0 q.1.0)))
]
