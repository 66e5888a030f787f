-- Counting the parts of a fill.
use Rattle.std.proofs.Common.{◌≡◌, refl, sym, ◌∙◌, ap, subst, ℕ, zero, suc, ◌+◌, ◌-◌, ◌<◌, ◌≤◌, arith, inl, inr, Bool, true, false, cond, List, [], ◌∷◌, ◌++◌, length, get_or, take, add-one}
use Rattle.std.specs.Prelude.{◌==◌, nat_lt, min, count_by}
use Rattle.std.proofs.lemmas.Bool.{cases_lt}
use Rattle.std.proofs.lemmas.Bool.Decides.{nat_tests}
use Rattle.std.proofs.lemmas.List.{take_all, get_or_append_left, get_or_push, length_push}
use Rattle.std.proofs.lemmas.List.Sums.{sum_by-cons}
use Rattle.fill_rules.specs.Nodes.{firsts_from}
use Rattle.fill_text.specs.Inner.Numbers.{number_of_part, AreNumbers}

-- ---- the parts that begin among the first pieces

long : (t : Bool) (s : ℕ) (fs : List ℕ) → length (cond t (s ∷ fs) fs) ≡ cond t (suc (length fs)) (length fs)
long true s fs = refl
long false s fs = refl

turned : (t u : Bool) (l : ℕ) → cond t (suc (cond u (suc l) l)) (cond u (suc l) l) ≡ cond u (suc (cond t (suc l) l)) (cond t (suc l) l)
turned true true l = refl
turned true false l = refl
turned false true l = refl
turned false false l = refl

first_more : (s k n : ℕ) (xs : List ℕ) → s + k ≡ n → k < length xs
    → length (firsts_from s (take (suc k) xs)) ≡ cond (get_or xs k 0 == n) (suc (length (firsts_from s (take k xs)))) (length (firsts_from s (take k xs)))
first_more s k n [] e l = absurd (omega (arith, l))
first_more s zero n (x ∷ xs) e l = long (x == s) s [] ∙ ap (λ (m : ℕ). cond (x == m) 1 0) (let f : s ≡ n = omega (arith, e) in f)
first_more s (suc k) n (x ∷ xs) e l =
    let h = first_more (suc s) k n xs (omega (arith, e)) (omega (arith, l)) in
    long (x == s) s (firsts_from (suc s) (take (suc k) xs)) ∙ ap (λ (m : ℕ). cond (x == s) (suc m) m) h
    ∙ turned (x == s) (get_or xs k 0 == n) (length (firsts_from (suc s) (take k xs)))
    ∙ ap (λ (m : ℕ). cond (get_or xs k 0 == n) (suc m) m) (sym (long (x == s) s (firsts_from (suc s) (take k xs))))

counted : (w : Bool) (count next l m : ℕ) → count ≡ l → next ≡ cond w (count + 1) count → m ≡ cond w (suc l) l → next ≡ m
counted true count next l m e f g = omega (arith, e, f, g)
counted false count next l m e f g = omega (arith, e, f, g)

-- the next piece
pub count_more : (parts : List ℕ) (k count next : ℕ) → k < length parts → count ≡ length (firsts_from 0 (take k parts)) → next ≡ cond (get_or parts k 0 == k) (count + 1) count
    → next ≡ length (firsts_from 0 (take (k + 1) parts))
count_more parts k count next l e f =
    counted (get_or parts k 0 == k) count next (length (firsts_from 0 (take k parts))) (length (firsts_from 0 (take (k + 1) parts))) e f
    (ap (λ (n : ℕ). length (firsts_from 0 (take n parts))) (add-one k) ∙ first_more 0 k k parts (omega arith) l)

pub count_end : (parts : List ℕ) (k count : ℕ) → length parts ≤ k → count ≡ length (firsts_from 0 (take k parts)) → count ≡ length (firsts_from 0 parts)
count_end parts k count l e = e ∙ ap (λ (z : List ℕ). length (firsts_from 0 z)) (take_all k parts l)

-- ---- the numbers

pub record IsCounting (parts : List ℕ) (k next : ℕ) (numbers : List ℕ) : Type 0 where
  pub many : length numbers ≡ suc k
  pub next_is : next ≡ suc (length (firsts_from 0 (take k parts)))
  pub each : (j : ℕ) → j ≤ k → get_or numbers j 0 ≡ suc (length (firsts_from 0 (take j parts)))

pub numbers_none : (parts numbers : List ℕ) (next : ℕ) → next ≡ 1 → numbers ≡ next ∷ [] → IsCounting parts 0 next numbers
numbers_none parts numbers next e f = record {
  many = ap (λ (z : List ℕ). length z) f;
  next_is = e;
  each = λ j l. (let g : j ≡ 0 = omega (arith, l) in
      subst (λ i. get_or numbers i 0 ≡ suc (length (firsts_from 0 (take i parts)))) (sym g) (ap (λ (z : List ℕ). get_or z 0 0) f ∙ e));
}

counted_on : (w : Bool) (count next l m : ℕ) → count ≡ suc l → next ≡ cond w (count + 1) count → m ≡ cond w (suc l) l → next ≡ suc m
counted_on true count next l m e f g = omega (arith, e, f, g)
counted_on false count next l m e f g = omega (arith, e, f, g)

pub numbers_more : (parts numbers new : List ℕ) (k count next : ℕ) → k < length parts → IsCounting parts k count numbers → next ≡ cond (get_or parts k 0 == k) (count + 1) count
    → new ≡ numbers ++ next ∷ [] → IsCounting parts (k + 1) next new
numbers_more parts numbers new k count next l h e f =
    let n : next ≡ suc (length (firsts_from 0 (take (k + 1) parts))) =
    counted_on (get_or parts k 0 == k) count next (length (firsts_from 0 (take k parts))) (length (firsts_from 0 (take (k + 1) parts))) h.next_is e
    (ap (λ (m : ℕ). length (firsts_from 0 (take m parts))) (add-one k) ∙ first_more 0 k k parts (omega arith) l) in
    record {
      many = let a = ap (λ (z : List ℕ). length z) f in let b = length_push numbers next in let m = h.many in omega (arith, a, b, m);
      next_is = n;
      each = λ j i. elim (cases_lt k j) [
        | inr m ↦ ap (λ (z : List ℕ). get_or z j 0) f ∙ get_or_append_left numbers (next ∷ []) 0 j (let c = h.many in omega (arith, c, m)) ∙ h.each j m
        | inl m ↦ (let g : j ≡ k + 1 = omega (arith, i, m) in
            subst (λ i. get_or new i 0 ≡ suc (length (firsts_from 0 (take i parts)))) (sym g)
            (ap (λ (z : List ℕ). get_or z (k + 1) 0) f ∙ get_or_push numbers next 0 (k + 1) (let c = h.many in omega (arith, c)) ∙ n))
      ];
    }

pub numbers_end : (parts numbers : List ℕ) (k next : ℕ) → length parts ≤ k → k ≤ length parts → IsCounting parts k next numbers → AreNumbers parts numbers
numbers_end parts numbers k next l m h = record {
  many = let a = h.many in omega (arith, a, l, m);
  each = λ j i. h.each j (omega (arith, i, l, m));
}

-- ---- the number of a part

pick : (p : ℕ → Bool) (s : ℕ) (fs : List ℕ) → count_by p (s ∷ fs) ≡ cond (p s) 1 0 + count_by p fs
pick p s fs = sum_by-cons (λ (x : ℕ). cond (p x) 1 0) s fs

below : (s m : ℕ) → s < m → cond {A = ℕ} (nat_lt s m) 1 0 ≡ 1
below s m l = grind (arith, nat_tests)

not_below : (s m : ℕ) → m ≤ s → cond {A = ℕ} (nat_lt s m) 1 0 ≡ 0
not_below s m l = grind (arith, nat_tests)

none_below : (s m : ℕ) (xs : List ℕ) → m ≤ s → count_by (λ (k : ℕ). nat_lt k m) (firsts_from s xs) ≡ 0
none_below s m [] l = refl
none_below s m (x ∷ xs) l = go (x == s) (none_below (suc s) m xs (omega (arith, l)))
  where
    go : (t : Bool) → count_by (λ (k : ℕ). nat_lt k m) (firsts_from (suc s) xs) ≡ 0
        → count_by (λ (k : ℕ). nat_lt k m) (cond t (s ∷ firsts_from (suc s) xs) (firsts_from (suc s) xs)) ≡ 0
    go true h = let a = pick (λ (k : ℕ). nat_lt k m) s (firsts_from (suc s) xs) in let b = not_below s m l in omega (arith, a, b, h)
    go false h = h

count_first : (s n m : ℕ) (xs : List ℕ) → s + n ≡ m → count_by (λ (k : ℕ). nat_lt k m) (firsts_from s xs) ≡ length (firsts_from s (take n xs))
count_first s zero m xs e = none_below s m xs (omega (arith, e))
count_first s (suc n) m [] e = refl
count_first s (suc n) m (x ∷ xs) e = go (x == s) (count_first (suc s) n m xs (omega (arith, e)))
  where
    go : (t : Bool) → count_by (λ (k : ℕ). nat_lt k m) (firsts_from (suc s) xs) ≡ length (firsts_from (suc s) (take n xs))
        → count_by (λ (k : ℕ). nat_lt k m) (cond t (s ∷ firsts_from (suc s) xs) (firsts_from (suc s) xs))
        ≡ length (cond t (s ∷ firsts_from (suc s) (take n xs)) (firsts_from (suc s) (take n xs)))
    go true h = let a = pick (λ (k : ℕ). nat_lt k m) s (firsts_from (suc s) xs) in let b = below s m (omega (arith, e)) in omega (arith, a, b, h)
    go false h = h

pub number_is : (parts numbers : List ℕ) (first : ℕ) → AreNumbers parts numbers → get_or numbers (min first (length numbers - 1)) 0 ≡ number_of_part parts first
number_is parts numbers first h = elim (cases_lt (length parts) first) [
  | inr l ↦ (
      let a = h.many in
      let e : min first (length numbers - 1) ≡ first = omega (arith, a, l) in
      ap (λ (k : ℕ). get_or numbers k 0) e ∙ h.each first l ∙ ap suc (sym (count_first 0 first first parts (omega arith))))
  | inl l ↦ (
      let a = h.many in
      let e : min first (length numbers - 1) ≡ length parts = omega (arith, a, l) in
      ap (λ (k : ℕ). get_or numbers k 0) e ∙ h.each (length parts) (omega arith)
      ∙ ap (λ (z : List ℕ). suc (length (firsts_from 0 z))) (take_all (length parts) parts (omega arith) ∙ sym (take_all first parts (omega (arith, l))))
      ∙ ap suc (sym (count_first 0 first first parts (omega arith))))
]
