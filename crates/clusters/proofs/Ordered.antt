-- Patches of nodes stand in the order of their nodes.
use Rattle.std.proofs.Common.{◌≡◌, refl, ap, ℕ, ◌<◌, ◌-◌, arith, inl, inr, List, [], ◌++◌, length, get_or}
use Rattle.std.specs.List.Sorted.{IsNonDecreasingBy}
use Rattle.std.proofs.lemmas.Bool.{cases_lt}
use Rattle.std.proofs.lemmas.List.{length-append, get_or_append_left, get_or-append_right}
use Rattle.classes.specs.Classes.{IsOneOf}
use Rattle.islands.proofs.Members.{one_at, one_split}

pub order_none : {A : Type 0} (f : A → ℕ) → IsNonDecreasingBy f []
order_none f i j d l m = absurd (omega (arith, m))

-- some of one number behind those that are less
pub order_then : {A : Type 0} (f : A → ℕ) (k : ℕ) (xs ys : List A) → ((x : A) → IsOneOf x xs → f x < k) → ((y : A) → IsOneOf y ys → f y ≡ k) → IsNonDecreasingBy f xs
    → IsNonDecreasingBy f (xs ++ ys)
order_then f k xs ys a b s i j d l m = elim (cases_lt j (length xs)) [
  | inl w ↦ (
      let e = ap f (get_or_append_left xs ys d i (omega (arith, l, w))) in
      let g = ap f (get_or_append_left xs ys d j w) in
      let r = s i j d l w in
      omega (arith, e, g, r))
  | inr w ↦ (
      let n = length-append xs ys in
      let e = ap f (get_or-append_right xs ys (length xs) j d refl w) in
      let g = b (get_or ys (j - length xs) d) (one_at ys (j - length xs) d (omega (arith, w, m, n))) in
      elim (one_split (get_or (xs ++ ys) i d) xs ys (one_at (xs ++ ys) i d (omega (arith, l, m)))) [
        | inl o ↦ (let r = a (get_or (xs ++ ys) i d) o in omega (arith, e, g, r))
        | inr o ↦ (let r = b (get_or (xs ++ ys) i d) o in omega (arith, e, g, r))
      ])
]
