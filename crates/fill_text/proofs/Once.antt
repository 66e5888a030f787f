-- Numbers upward and each once: one list alone is that.
use Rattle.std.proofs.Common.{◌≡◌, refl, sym, ◌∙◌, ap, subst, ℕ, zero, suc, ◌<◌, arith, inl, inr, List, [], ◌∷◌, length, get_or, add-one}
use Rattle.std.specs.Prelude.{◌↔◌}
use Rattle.std.specs.List.{Contains}
use Rattle.std.specs.List.Sorted.{IsStrictlyIncreasing}
use Rattle.classes.specs.Classes.{IsOneOf}
use Rattle.islands.proofs.Members.{one_at, one_place}
use Rattle.fill_rules.specs.Ranking.{IsSortedBy}
use Rattle.output_rules.specs.Laws.{IsBelow}

pub same_once : (xs ys : List ℕ) → IsSortedBy IsBelow xs → IsSortedBy IsBelow ys → ((n : ℕ) → IsOneOf n xs ↔ IsOneOf n ys) → xs ≡ ys
unfolding IsSortedBy IsOneOf
same_once [] [] s t h = refl
same_once [] (y ∷ ys) s t h = absurd ((h y).1 (inl refl))
same_once (x ∷ xs) [] s t h = absurd ((h x).0 (inl refl))
same_once (x ∷ xs) (y ∷ ys) s t h =
    ap (λ (n : ℕ). n ∷ xs) heads ∙ ap (λ (z : List ℕ). y ∷ z) (same_once xs ys s.1 t.1 (λ n. (on n, back n)))
  where
    heads : x ≡ y
    heads = elim ((h x).0 (inl refl)) [
      | inl e ↦ e
      | inr i ↦ elim ((h y).1 (inl refl)) [ inl e ↦ sym e | inr j ↦ (let a = t.0 x i in let b = s.0 y j in absurd (omega (arith, a, b))) ]
    ]

    on : (n : ℕ) → IsOneOf n xs → IsOneOf n ys
    on n i = elim ((h n).0 (inr i)) [ inl e ↦ (let a = s.0 n i in let b = heads in absurd (omega (arith, a, b, e))) | inr j ↦ j ]

    back : (n : ℕ) → IsOneOf n ys → IsOneOf n xs
    back n i = elim ((h n).1 (inr i)) [ inl e ↦ (let a = t.0 n i in let b = heads in absurd (omega (arith, a, b, e))) | inr j ↦ j ]

-- where each is below the next, each is below all later ones
next_above : (xs : List ℕ) → IsStrictlyIncreasing xs → (k : ℕ) → suc k < length xs → get_or xs k 0 < get_or xs (suc k) 0
next_above xs s k l = subst (λ n. get_or xs k 0 < get_or xs n 0) (add-one k) (s k (omega (arith, l)))

far : (x : ℕ) (xs : List ℕ) → ((k : ℕ) → suc k < length (x ∷ xs) → get_or (x ∷ xs) k 0 < get_or (x ∷ xs) (suc k) 0) → (k : ℕ) → k < length xs → x < get_or xs k 0
far x xs s zero l = s 0 (omega (arith, l))
far x xs s (suc k) l = let a = far x xs s k (omega (arith, l)) in let b : get_or xs k 0 < get_or xs (suc k) 0 = s (suc k) (omega (arith, l)) in omega (arith, a, b)

sorted_by : (xs : List ℕ) → ((k : ℕ) → suc k < length xs → get_or xs k 0 < get_or xs (suc k) 0) → IsSortedBy IsBelow xs
unfolding IsSortedBy
sorted_by [] s = tt
sorted_by (x ∷ xs) s = (
  λ y i. let r = one_place y xs i in subst (λ n. x < n) (r.2 0) (far x xs s r.0 r.1),
  sorted_by xs (λ k l. s (suc k) (omega (arith, l))),
)

pub sorted_is : (xs : List ℕ) → IsStrictlyIncreasing xs → IsSortedBy IsBelow xs
sorted_is xs s = sorted_by xs (next_above xs s)

pub contains_one : (x : ℕ) (xs : List ℕ) → Contains xs x ↔ IsOneOf x xs
contains_one x xs = (
  λ c. subst (λ z. IsOneOf z xs) c.2 (one_at xs c.0 x c.1),
  λ i. let r = one_place x xs i in (r.0, r.1, r.2 x),
)
