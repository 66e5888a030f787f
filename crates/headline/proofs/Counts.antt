-- Two lists with the same numbers, each once, are equally long.
use Rattle.std.proofs.Common.{◌≡◌, refl, sym, ◌∙◌, arith, ℕ, suc, ◌≤◌, ◌⊎◌, inl, inr, List, [], ◌∷◌, length}
use Rattle.classes.specs.Classes.{IsOneOf}
use Rattle.ratsnest.specs.declared.Anchor.{Anchor}
use Rattle.ratsnest.specs.Ratsnest.{Apart, HasClusters}

abbrev pub EachOnce : List ℕ → Type 0
EachOnce xs = Apart (λ c d. c ≡ d) xs

-- the list without one of the places where x stands
record IsWithout (x : ℕ) (xs rest : List ℕ) : Type 0 where
  pub shorter : length xs ≡ suc (length rest)
  pub others : (y : ℕ) → IsOneOf y xs → (x ≡ y) ⊎ IsOneOf y rest

without : (x : ℕ) (xs : List ℕ) → IsOneOf x xs → (rest : List ℕ) × IsWithout x xs rest
unfolding IsOneOf
without x [] h = absurd h
without x (y ∷ ys) (inl e) = (ys, record { shorter = refl; others = λ z i. elim i [ inl f ↦ inl (e ∙ sym f) | inr j ↦ inr j ] })
without x (y ∷ ys) (inr i) =
    let r = without x ys i in
    let s : length ys ≡ suc (length r.0) = r.1.shorter in (
      y ∷ r.0,
      record {
        shorter = omega (arith, s);
        others = λ z k. elim k [ inl f ↦ inr (inl f) | inr j ↦ elim (r.1.others z j) [ inl f ↦ inl f | inr m ↦ inr (inr m) ] ];
      },
    )

-- what is left of the second list holds the others of the first
left_over : (x : ℕ) (xs ys rest : List ℕ) → EachOnce (x ∷ xs) → ((z : ℕ) → IsOneOf z (x ∷ xs) → IsOneOf z ys) → IsWithout x ys rest → (z : ℕ) → IsOneOf z xs → IsOneOf z rest
unfolding IsOneOf Apart
left_over x xs ys rest (a, as_) within w z i = elim (w.others z (within z (inr i))) [ inl e ↦ absurd (a z i e) | inr j ↦ j ]

-- numbers that stand once each are no more than those of a list that has them all
no_more : (xs ys : List ℕ) → EachOnce xs → ((z : ℕ) → IsOneOf z xs → IsOneOf z ys) → length xs ≤ length ys
unfolding IsOneOf Apart
no_more [] ys a within = omega arith
no_more (x ∷ xs) ys a within =
    let r = without x ys (within x (inl refl)) in
    let l : length xs ≤ length r.0 = no_more xs r.0 a.1 (left_over x xs ys r.0 a within r.1) in
    let s : length ys ≡ suc (length r.0) = r.1.shorter in
    omega (arith, l, s)

-- so anchors have one number of clusters
pub as_many : (anchors : List Anchor) (all others : List ℕ) → HasClusters anchors all → HasClusters anchors others → length all ≡ length others
as_many anchors all others h k =
    let l : length all ≤ length others = no_more all others h.apart (λ c i. k.whole c (h.these c i)) in
    let m : length others ≤ length all = no_more others all k.apart (λ c i. h.whole c (k.these c i)) in
    omega (arith, l, m)
