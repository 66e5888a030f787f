-- Two ascending lists of the same numbers are one.
use Rattle.std.proofs.Common.{◌≡◌, ◌∙◌, sym, ap, ℕ, ◌<◌, ◌⊎◌, inl, inr, arith, List, [], ◌∷◌, refl}
use Rattle.std.specs.Prelude.{◌↔◌}
use Rattle.classes.specs.Classes.{IsOneOf}
use Rattle.fill_rules.specs.Ranking.{IsSortedBy}
use Rattle.output_rules.specs.Laws.{IsBelow}

-- the first is the least
least : (x k : ℕ) (xs : List ℕ) → IsSortedBy IsBelow (x ∷ xs) → IsOneOf k (x ∷ xs) → (k ≡ x) ⊎ (x < k)
unfolding IsSortedBy IsOneOf
least x k xs h (inl e) = inl e
least x k xs h (inr i) = inr (h.0 k i)

first : (x y : ℕ) (xs ys : List ℕ) → IsSortedBy IsBelow (x ∷ xs) → IsSortedBy IsBelow (y ∷ ys) → IsOneOf x (y ∷ ys) → IsOneOf y (x ∷ xs) → x ≡ y
first x y xs ys h g i j = elim (least y x ys g i) [
  | inl e ↦ e
  | inr l ↦ elim (least x y xs h j) [
    | inl e ↦ sym e
    | inr k ↦ absurd (omega (arith, l, k))
  ]
]

-- a number of the rest isn't the first
behind : (x y k : ℕ) (xs ys : List ℕ) → IsSortedBy IsBelow (x ∷ xs) → x ≡ y → IsOneOf k xs → IsOneOf k (y ∷ ys) → IsOneOf k ys
unfolding IsSortedBy IsOneOf
behind x y k xs ys h e i (inl f) = let l : x < k = h.0 k i in absurd (omega (arith, e, f, l))
behind x y k xs ys h e i (inr j) = j

rest : (x : ℕ) (xs : List ℕ) → IsSortedBy IsBelow (x ∷ xs) → IsSortedBy IsBelow xs
unfolding IsSortedBy
rest x xs h = h.1

later : (k x : ℕ) (xs : List ℕ) → IsOneOf k xs → IsOneOf k (x ∷ xs)
unfolding IsOneOf
later k x xs i = inr i

here : (x : ℕ) (xs : List ℕ) → IsOneOf x (x ∷ xs)
unfolding IsOneOf
here x xs = inl refl

nowhere : (k : ℕ) → IsOneOf k [] → ⊥
unfolding IsOneOf
nowhere k i = i

pub same_sorted : (xs ys : List ℕ) → IsSortedBy IsBelow xs → IsSortedBy IsBelow ys → ((k : ℕ) → IsOneOf k xs ↔ IsOneOf k ys) → xs ≡ ys
same_sorted [] [] h g m = refl
same_sorted [] (y ∷ ys) h g m = absurd (nowhere y ((m y).1 (here y ys)))
same_sorted (x ∷ xs) [] h g m = absurd (nowhere x ((m x).0 (here x xs)))
same_sorted (x ∷ xs) (y ∷ ys) h g m =
    let e : x ≡ y = first x y xs ys h g ((m x).0 (here x xs)) ((m y).1 (here y ys)) in
    let more : xs ≡ ys = same_sorted xs ys (rest x xs h) (rest y ys g)
    (λ k. (λ i. behind x y k xs ys h e i ((m k).0 (later k x xs i)), λ i. behind y x k ys xs g (sym e) i ((m k).1 (later k y ys i)))) in
    ap (λ z. z ∷ xs) e ∙ ap (λ zs. y ∷ zs) more
