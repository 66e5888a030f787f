-- A list that is sorted downward by a number, where those of one number keep their order, is the list with each put before those
-- of no greater number that stand behind it.
use Rattle.std.proofs.Common.{◌≡◌, refl, sym, ◌∙◌, ap, subst, ℕ, suc, ◌≤◌, ◌<◌, arith, Bool, true, false, cond, List, [], ◌∷◌, length, get_or, add-one}
use Rattle.std.specs.Prelude.{nat_le, ◌==◌, not, ◌&&◌}
use Rattle.std.specs.List.{filter}
use Rattle.std.specs.List.Sorted.{ties, IsSortedBy, IsStableBy}
use Rattle.std.specs.Ordering.{is_lt, nat_cmp}
use Rattle.std.proofs.lemmas.Bool.{false≢true}
use Rattle.std.proofs.lemmas.Bool.Decides.{nat_tests}

module _ {X : Type 0} (n : X → ℕ) where
  -- put before those of no greater number
  abbrev pub put : X → List X → List X
  put x [] = x ∷ []
  put x (y ∷ ys) = cond (nat_le (n y) (n x)) (x ∷ y ∷ ys) (y ∷ put x ys)

  abbrev pub all_put : List X → List X
  all_put [] = []
  all_put (x ∷ xs) = put x (all_put xs)

  -- the number is at least that of each of the list
  abbrev Above : ℕ → List X → Type 0
  Above k [] = Unit {0}
  Above k (y ∷ ys) = (n y ≤ k) × Above k ys

  abbrev Falls : List X → Type 0
  Falls [] = Unit {0}
  Falls (y ∷ ys) = Above (n y) ys × Falls ys

  -- those of one number
  abbrev of_number : ℕ → List X → List X
  of_number k ys = filter (λ y. n y == k) ys

  -- ---- the numbers fall
  above_more : (k m : ℕ) (ys : List X) → m ≤ k → Above m ys → Above k ys
  above_more k m [] l h = tt
  above_more k m (y ∷ ys) l h = (let a = h.0 in omega (arith, l, a), above_more k m ys l h.1)

  le_of : (a b : ℕ) → nat_le a b ≡ true → a ≤ b
  le_of a b e = grind (arith, nat_tests)

  lt_of : (a b : ℕ) → nat_le a b ≡ false → b < a
  lt_of a b e = grind (arith, nat_tests)

  put_above : (k : ℕ) (x : X) (ys : List X) → n x ≤ k → Above k ys → Above k (put x ys)
  put_above k x [] l h = (l, tt)
  put_above k x (y ∷ ys) l h = pick (nat_le (n y) (n x)) (put_above k x ys l h.1)
    where
      pick : (b : Bool) → Above k (put x ys) → Above k (cond b (x ∷ y ∷ ys) (y ∷ put x ys))
      pick true r = (l, h)
      pick false r = (h.0, r)

  put_falls : (x : X) (ys : List X) → Falls ys → Falls (put x ys)
  put_falls x [] h = (tt, tt)
  put_falls x (y ∷ ys) h = pick (nat_le (n y) (n x)) refl (put_falls x ys h.1)
    where
      pick : (b : Bool) → nat_le (n y) (n x) ≡ b → Falls (put x ys) → Falls (cond b (x ∷ y ∷ ys) (y ∷ put x ys))
      pick true e r = let l = le_of (n y) (n x) e in ((l, above_more (n x) (n y) ys l h.0), h)
      pick false e r = let l = lt_of (n y) (n x) e in (put_above (n y) x ys (omega (arith, l)) h.0, r)

  all_fall : (xs : List X) → Falls (all_put xs)
  all_fall [] = tt
  all_fall (x ∷ xs) = put_falls x (all_put xs) (all_fall xs)

  -- ---- those of one number keep their order
  eq_of : (a b : ℕ) → (a == b) ≡ true → a ≡ b
  eq_of a b e = grind (arith, nat_tests)

  of_eq : (a b : ℕ) → a ≡ b → (a == b) ≡ true
  of_eq a b e = grind (arith, nat_tests)

  not_eq : (a b : ℕ) → b < a → (a == b) ≡ false
  not_eq a b l = grind (arith, nat_tests)

  swap : (a b : X) (c d : Bool) (zs : List X) → (c ≡ true → d ≡ false) → cond d (b ∷ cond c (a ∷ zs) zs) (cond c (a ∷ zs) zs) ≡ cond c (a ∷ cond d (b ∷ zs) zs) (cond d (b ∷ zs) zs)
  swap a b true true zs h = absurd (false≢true (sym (h refl)))
  swap a b true false zs h = refl
  swap a b false d zs h = refl

  put_keeps : (k : ℕ) (x : X) (ys : List X) → of_number k (put x ys) ≡ of_number k (x ∷ ys)
  put_keeps k x [] = refl
  put_keeps k x (y ∷ ys) = pick (nat_le (n y) (n x)) refl (put_keeps k x ys)
    where
      pick : (b : Bool) → nat_le (n y) (n x) ≡ b → of_number k (put x ys) ≡ of_number k (x ∷ ys) → of_number k (cond b (x ∷ y ∷ ys) (y ∷ put x ys)) ≡ of_number k (x ∷ y ∷ ys)
      pick true e r = refl
      pick false e r =
          let l = lt_of (n y) (n x) e in
          ap (λ zs. cond (n y == k) (y ∷ zs) zs) r
          ∙ swap x y (n x == k) (n y == k) (of_number k ys) (λ same. (let f : n x ≡ k = eq_of (n x) k same in not_eq (n y) k (omega (arith, l, f))))

  all_keep : (k : ℕ) (xs : List X) → of_number k (all_put xs) ≡ of_number k xs
  all_keep k [] = refl
  all_keep k (x ∷ xs) = put_keeps k x (all_put xs) ∙ ap (λ zs. cond (n x == k) (x ∷ zs) zs) (all_keep k xs)

  -- ---- a list that falls is told by those of each number
  some_none : (x : X) (xs : List X) → x ∷ xs ≡ [] → ⊥
  some_none x xs e = let g : suc (length xs) ≡ 0 = ap length e in omega (arith, g)

  most_of : (k m : ℕ) (x : X) (ys zs : List X) → Above m ys → of_number k ys ≡ x ∷ zs → k ≤ m
  most_of k m x [] zs h e = absurd (some_none x zs (sym e))
  most_of k m x (y ∷ ys) zs h e = pick (n y == k) refl e (most_of k m x ys zs h.1)
    where
      pick : (b : Bool) → (n y == k) ≡ b → cond b (y ∷ of_number k ys) (of_number k ys) ≡ x ∷ zs → (of_number k ys ≡ x ∷ zs → k ≤ m) → k ≤ m
      pick true f g r = let s : n y ≡ k = eq_of (n y) k f in let l = h.0 in omega (arith, l, s)
      pick false f g r = r g

  here : (x : X) (xs : List X) → of_number (n x) (x ∷ xs) ≡ x ∷ of_number (n x) xs
  here x xs = ap (λ b. cond b (x ∷ of_number (n x) xs) (of_number (n x) xs)) (of_eq (n x) (n x) refl)

  head_of : X → List X → X
  head_of d [] = d
  head_of d (x ∷ xs) = x

  tail_of : List X → List X
  tail_of [] = []
  tail_of (x ∷ xs) = xs

  behind : (y z : X) (ys zs : List X) (c d : Bool) → c ≡ d → cond c (y ∷ ys) ys ≡ cond d (z ∷ zs) zs → ys ≡ zs
  unfolding tail_of
  behind y z ys zs true true e f = ap tail_of f
  behind y z ys zs false false e f = f
  behind y z ys zs true false e f = absurd (false≢true (sym e))
  behind y z ys zs false true e f = absurd (false≢true e)

  one_order : (ys zs : List X) → Falls ys → Falls zs → ((x : X) → of_number (n x) ys ≡ of_number (n x) zs) → ys ≡ zs
  unfolding head_of
  one_order [] [] h g same = refl
  one_order [] (z ∷ zs) h g same = absurd (some_none z (of_number (n z) zs) (sym (here z zs) ∙ sym (same z)))
  one_order (y ∷ ys) [] h g same = absurd (some_none y (of_number (n y) ys) (sym (here y ys) ∙ same y))
  one_order (y ∷ ys) (z ∷ zs) h g same =
      let a : n y ≤ n z = most_of (n y) (n z) y (z ∷ zs) (of_number (n y) ys) (omega arith, g.0) (sym (same y) ∙ here y ys) in
      let b : n z ≤ n y = most_of (n z) (n y) z (y ∷ ys) (of_number (n z) zs) (omega arith, h.0) (same z ∙ here z zs) in
      let one : n y ≡ n z = omega (arith, a, b) in
      let both : y ∷ of_number (n y) ys ≡ z ∷ of_number (n y) zs =
      sym (here y ys) ∙ same y ∙ ap (λ c. cond c (z ∷ of_number (n y) zs) (of_number (n y) zs)) (of_eq (n z) (n y) (sym one)) in
      let head : y ≡ z = ap (head_of y) both in
      let rest : ys ≡ zs =
      one_order ys zs h.1 g.1 (λ x. behind y z (of_number (n x) ys) (of_number (n x) zs) (n y == n x) (n z == n x) (ap (λ m. m == n x) one) (same x)) in
      λ i. head i ∷ rest i

  -- ---- what a stable sort ensures
  order_of : (a b : ℕ) → is_lt (nat_cmp a b) ≡ false → b ≤ a
  order_of a b e = grind (arith, nat_tests)

  falls_from : (ys : List X) → ((k : ℕ) (d : X) → suc k < length ys → is_lt (nat_cmp (n (get_or ys k d)) (n (get_or ys (suc k) d))) ≡ false) → Falls ys
  falls_from [] h = tt
  falls_from (y ∷ []) h = (tt, tt)
  falls_from (y ∷ z ∷ zs) h =
      let first : n z ≤ n y = order_of (n y) (n z) (h 0 y (omega arith)) in
      let rest : Falls (z ∷ zs) = falls_from (z ∷ zs) (λ k d l. h (suc k) d (omega (arith, l))) in
      ((first, above_more (n y) (n z) zs first rest.0), rest)

  tie_is : (x y : X) → ties (λ a b. is_lt (nat_cmp (n b) (n a))) x y ≡ (n y == n x)
  tie_is x y = numbers (n x) (n y)
    where
      numbers : (a b : ℕ) → (not (is_lt (nat_cmp b a)) && not (is_lt (nat_cmp a b))) ≡ (b == a)
      numbers a b = grind (arith, nat_tests)

  filter_same : (p q : X → Bool) (xs : List X) → ((x : X) → p x ≡ q x) → filter p xs ≡ filter q xs
  filter_same p q [] h = refl
  filter_same p q (x ∷ xs) h = ap (λ b. cond b (x ∷ filter p xs) (filter p xs)) (h x) ∙ ap (λ zs. cond (q x) (x ∷ zs) zs) (filter_same p q xs h)

  pub sorted_is : (xs ys : List X) → IsSortedBy (λ a b. is_lt (nat_cmp (n b) (n a))) ys → IsStableBy (λ a b. is_lt (nat_cmp (n b) (n a))) xs ys → ys ≡ all_put xs
  sorted_is xs ys up stable =
      one_order ys (all_put xs) (falls_from ys (λ k d l. subst (λ m. is_lt (nat_cmp (n (get_or ys k d)) (n (get_or ys m d))) ≡ false) (add-one k) (up k d (omega arith) (omega (arith, l))))) (all_fall xs) (λ x.
      sym (filter_same (ties (λ a b. is_lt (nat_cmp (n b) (n a))) x) (λ y. n y == n x) ys (tie_is x))
      ∙ stable x
      ∙ filter_same (ties (λ a b. is_lt (nat_cmp (n b) (n a))) x) (λ y. n y == n x) xs (tie_is x)
      ∙ sym (all_keep (n x) xs))
