-- Sorted numbers of which repeats were dropped.
use Rattle.std.proofs.Common.{◌≡◌, subst, refl, suc, arith, List, [], ◌∷◌, Bool, true, false, cond}
use Rattle.std.specs.Prelude.{ℤ, ◌≤ℤ◌, ◌<ℤ◌, AllPairs, Contains}
use Rattle.std.specs.List.{All, dedup, dedup_from}
use Rattle.std.specs.List.Sorted.{IsSorted, IsPermutation}
use Rattle.std.specs.Ordering.{int_cmp, int_eq, is_lt}
use Rattle.std.proofs.lemmas.Int.{ints, by_lt_z}
use Rattle.std.proofs.lemmas.Bool.Decides.{Decides-int_eq}
use Rattle.std.proofs.lemmas.Cmp.{int_eq_equiv}
use Rattle.std.proofs.lemmas.List.Elements.{All-cons, All-nil}
use Rattle.std.proofs.lemmas.List.Kept.{AllPairs-cons, Contains-dedup, Contains-from_dedup}
use Rattle.std.proofs.lemmas.List.Sorted.{Contains-permutation, IsPermutation-sym}
use native.Mathlib.Numerals.{unary_clauses}

at_most : (x y : ℤ) → is_lt (int_cmp x y) ≡ false → y ≤ℤ x
at_most x y h = by_lt_z {P = y ≤ℤ x} x y (λ l. grind (arith, ints)) (λ l. l)

-- from k on, each at least the one before
unfoldable pub AreRising : ℤ → List ℤ → Type 0
AreRising k [] = Unit {0}
AreRising k (x ∷ xs) = (k ≤ℤ x) × AreRising x xs

rising_from : (k : ℤ) (xs : List ℤ) → IsSorted int_cmp (k ∷ xs) → AreRising k xs
unfolding AreRising
rising_from k [] h = tt
rising_from k (x ∷ xs) h =
    (at_most x k (h 0 k (omega arith) (omega arith)), rising_from x xs (λ j d l m. simp unary_clauses (let n = h (suc j) d (omega arith) (omega (arith, m)) in simp unary_clauses at n)))

same_is : (x y : ℤ) → int_eq x y ≡ true → x ≡ y
same_is x y e = search (Decides-int_eq, arith, ints)

other_is : (x y : ℤ) → int_eq x y ≡ false → x ≡ y → ⊥
other_is x y e f = search (Decides-int_eq, arith, ints)

record IsDown (k : ℤ) (ys : List ℤ) : Type 0 where
  each : All (λ q. k ≤ℤ q) ys
  pairs : AllPairs (λ r q. r <ℤ q) ys

more : (k x : ℤ) (ys : List ℤ) → k <ℤ x → IsDown x ys → IsDown k (k ∷ ys)
more k x ys l h = record {
  each = All-cons (λ q. k ≤ℤ q) k ys (omega (arith, ints)) (λ j d m. (let n = h.each j d m in omega (arith, ints, l, n)));
  pairs = AllPairs-cons (λ r q. r <ℤ q) k ys (λ j d m. (let n = h.each j d m in omega (arith, ints, l, n))) h.pairs;
}

by_same : (k x : ℤ) (xs : List ℤ) → k ≤ℤ x → IsDown x (dedup_from int_eq x xs) → (x ≡ k → IsDown k (dedup_from int_eq k xs)) → IsDown k (dedup_from int_eq k (x ∷ xs))
by_same k x xs l h f = go (int_eq x k) refl
  where
    go : (b : Bool) → int_eq x k ≡ b → IsDown k (cond b (dedup_from int_eq k xs) (k ∷ dedup_from int_eq x xs))
    go true e = f (same_is x k e)
    go false e = more k x (dedup_from int_eq x xs) (let n = other_is x k e in by_lt_z {P = k <ℤ x} k x (λ m. m) (λ m. absurd (n (omega (arith, ints, l, m))))) h

down_from : (k : ℤ) (xs : List ℤ) → AreRising k xs → IsDown k (dedup_from int_eq k xs)
unfolding AreRising
down_from k [] h = record {
  each = All-cons (λ q. k ≤ℤ q) k [] (omega (arith, ints)) (All-nil (λ q. k ≤ℤ q));
  pairs = AllPairs-cons (λ r q. r <ℤ q) k [] (All-nil (λ q. k <ℤ q)) (λ i j d l m. absurd (omega (arith, m)));
}
down_from k (x ∷ xs) h = by_same k x xs h.0 (down_from x xs h.1) (λ e. down_from k xs (subst (λ (z : ℤ). AreRising z xs) e h.1))

pub down_of : (xs : List ℤ) → IsSorted int_cmp xs → AllPairs (λ r q. r <ℤ q) (dedup int_eq xs)
down_of [] h = λ i j d l m. absurd (omega (arith, m))
down_of (x ∷ xs) h = (down_from x xs (rising_from x xs h)).pairs

pub kept : (xs ys : List ℤ) (r : ℤ) → IsPermutation xs ys → Contains xs r → Contains (dedup int_eq ys) r
kept xs ys r p c = Contains-dedup int_eq_equiv same_is ys r (Contains-permutation xs ys r p c)

pub back : (xs ys : List ℤ) (r : ℤ) → IsPermutation xs ys → Contains (dedup int_eq ys) r → Contains xs r
back xs ys r p c = Contains-permutation ys xs r (IsPermutation-sym xs ys p) (Contains-from_dedup int_eq ys r c)
