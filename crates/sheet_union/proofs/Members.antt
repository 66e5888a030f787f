-- Elements of lists, by recursion.
use Rattle.std.proofs.Common.{◌≡◌, refl, sym, ap, ℕ, zero, suc, ◌<◌, ◌⊎◌, inl, inr, arith, List, [], ◌∷◌, ◌++◌, length, get_or, map}
use Rattle.std.specs.Prelude.{Contains}

-- x is an element
unfoldable pub IsOne : {X : Type 0} → List X → X → Type 0
IsOne [] x = ⊥
IsOne (y ∷ ys) x = (x ≡ y) ⊎ IsOne ys x

pub one_of : {X : Type 0} (xs : List X) (x : X) → Contains xs x → IsOne xs x
unfolding IsOne
one_of {X} xs x c = at xs c.0 c.1 c.2
  where
    at : (xs : List X) (k : ℕ) → k < length xs → get_or xs k x ≡ x → IsOne xs x
    at [] k l e = absurd (omega (arith, l))
    at (y ∷ ys) zero l e = inl (sym e)
    at (y ∷ ys) (suc k) l e = inr (at ys k (omega (arith, l)) e)

pub contains_of : {X : Type 0} (xs : List X) (x : X) → IsOne xs x → Contains xs x
unfolding IsOne
contains_of [] x i = absurd i
contains_of (y ∷ ys) x (inl e) = (zero, omega arith, sym e)
contains_of (y ∷ ys) x (inr i) = let c = contains_of ys x i in (suc c.0, (let l = c.1 in omega (arith, l)), c.2)

pub one_left : {X : Type 0} (xs ys : List X) (x : X) → IsOne xs x → IsOne (xs ++ ys) x
unfolding IsOne
one_left [] ys x i = absurd i
one_left (z ∷ zs) ys x (inl e) = inl e
one_left (z ∷ zs) ys x (inr i) = inr (one_left zs ys x i)

pub one_right : {X : Type 0} (xs ys : List X) (x : X) → IsOne ys x → IsOne (xs ++ ys) x
unfolding IsOne
one_right [] ys x i = i
one_right (z ∷ zs) ys x i = inr (one_right zs ys x i)

pub one_cases : {X : Type 0} (xs ys : List X) (x : X) → IsOne (xs ++ ys) x → IsOne xs x ⊎ IsOne ys x
unfolding IsOne
one_cases [] ys x i = inr i
one_cases (z ∷ zs) ys x (inl e) = inl (inl e)
one_cases (z ∷ zs) ys x (inr i) = elim (one_cases zs ys x i) [ inl j ↦ inl (inr j) | inr j ↦ inr j ]

pub one_map : {X Y : Type 0} (f : X → Y) (xs : List X) (x : X) → IsOne xs x → IsOne (map f xs) (f x)
unfolding IsOne
one_map f [] x i = absurd i
one_map f (z ∷ zs) x (inl e) = inl (ap f e)
one_map f (z ∷ zs) x (inr i) = inr (one_map f zs x i)

pub one_back : {X Y : Type 0} (f : X → Y) (xs : List X) (y : Y) → IsOne (map f xs) y → (x : X) × IsOne xs x × (y ≡ f x)
unfolding IsOne
one_back f [] y i = absurd i
one_back f (z ∷ zs) y (inl e) = (z, inl refl, e)
one_back f (z ∷ zs) y (inr i) = let w = one_back f zs y i in (w.0, inr w.1, w.2)
