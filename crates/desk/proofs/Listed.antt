-- A binary search among numbers that ascend finds each of them.
use Rattle.std.proofs.Common.{◌≡◌, ◌≢◌, ℕ, zero, suc, ◌+◌, ◌-◌, ◌<◌, ◌≤◌, false, ◌||◌, List, [], ◌∷◌, length, get_or, Result, Ok, Err, is_ok, refl, sym, ◌∙◌, ap, subst, arith, eqb, eq-eqb}
use Rattle.std.specs.Ordering.{nat_cmp}
use Rattle.std.specs.List.{list_any}
use Rattle.std.specs.List.Sorted.{IsStrictlyIncreasing, IsBinarySearchResult}
use Rattle.std.proofs.lemmas.Bool.{eqb-true, false_from_ne_true}
use Rattle.std.proofs.lemmas.List.Folds.{list_any_at}
use Rattle.std.proofs.lemmas.List.Sorted.{searched}

rises : (xs : List ℕ) → IsStrictlyIncreasing xs → (i n : ℕ) → i + n < length xs → get_or xs i 0 ≤ get_or xs (i + n) 0
rises xs up i zero h = let e : i ≡ i + 0 = omega arith in subst (λ k. get_or xs i 0 ≤ get_or xs k 0) e (omega arith)
rises xs up i (suc n) h =
    let e : i + n + 1 ≡ i + suc n = omega arith in
    let below : get_or xs i 0 ≤ get_or xs (i + n) 0 = rises xs up i n (omega arith) in
    let next : get_or xs (i + n) 0 < get_or xs (i + n + 1) 0 = up (i + n) (omega arith) in
    subst (λ k. get_or xs i 0 ≤ get_or xs k 0) e (omega arith)

in_order : (xs : List ℕ) → IsStrictlyIncreasing xs → (i j : ℕ) → i ≤ j → j < length xs → get_or xs i 0 ≤ get_or xs j 0
in_order xs up i j le h = let e : i + (j - i) ≡ j = omega arith in subst (λ k. get_or xs i 0 ≤ get_or xs k 0) e (rises xs up i (j - i) (omega arith))

none_among : (xs : List ℕ) (x : ℕ) → ((k : ℕ) → k < length xs → get_or xs k 0 ≢ x) → list_any (λ y. eqb y x) xs ≡ false
none_among [] x h = refl
none_among (y ∷ ys) x h =
    ap (λ b. b || list_any (λ z. eqb z x) ys) (false_from_ne_true (eqb y x) (λ e. h zero (omega arith) (eqb-true y x e)))
    ∙ none_among ys x (λ k l. h (suc k) (omega arith))

apart : (xs : List ℕ) (x i : ℕ) → ((k : ℕ) → k < i → get_or xs k 0 < x) → ((k : ℕ) → i ≤ k → k < length xs → x < get_or xs k 0) → (k : ℕ) → k < length xs → get_or xs k 0 ≡ x → ⊥
apart xs x i below above k l e = grind (arith, below k, above k)

pub found_listed : (xs : List ℕ) (x : ℕ) (r : Result ℕ ℕ) → IsStrictlyIncreasing xs → IsBinarySearchResult (λ y. nat_cmp y x) xs r → is_ok r ≡ list_any (λ y. eqb y x) xs
found_listed xs x (Ok i) up s =
    let at = searched xs x (Ok i) s (in_order xs up) in
    sym (list_any_at (λ y. eqb y x) xs i 0 at.0 (eq-eqb (get_or xs i 0) x at.1))
found_listed xs x (Err i) up s =
    let sides = searched xs x (Err i) s (in_order xs up) in
    sym (none_among xs x (apart xs x i sides.1 sides.2))
