-- Some element of a list, and the two ways to be covered.
use Rattle.std.proofs.Common.{◌≡◌, refl, ℕ, zero, suc, ◌<◌, ◌⊎◌, inl, inr, arith, List, [], ◌∷◌, ◌++◌, length, get_or}
use Rattle.std.specs.Prelude.{Any}
use Rattle.plane.specs.Plane.{PlanePoint}
use Rattle.plane.specs.Covering.{Edge, IsOn, IsOdd, crossings, Covers}

pub covers_on : (es : List Edge) (p : PlanePoint) → Any (λ e. IsOn e p) es → Covers es p
unfolding Covers
covers_on es p a = inl a

pub covers_odd : (es : List Edge) (p : PlanePoint) → IsOdd (crossings es p) → Covers es p
unfolding Covers
covers_odd es p o = inr o

pub covers_cases : (es : List Edge) (p : PlanePoint) → Covers es p → Any (λ e. IsOn e p) es ⊎ IsOdd (crossings es p)
unfolding Covers
covers_cases es p c = c

pub any_none : {X : Type 0} (P : X → Type 0) → Any P [] → ⊥
any_none P a = omega (arith, a.2)

pub any_head : {X : Type 0} (P : X → Type 0) (x : X) (xs : List X) → P x → Any P (x ∷ xs)
any_head P x xs h = (0, x, omega arith, refl, h)

pub any_tail : {X : Type 0} (P : X → Type 0) (x : X) (xs : List X) → Any P xs → Any P (x ∷ xs)
any_tail P x xs a = (suc a.0, a.1, (let h = a.2 in omega arith), a.3, a.4)

pub any_cases : {X : Type 0} (P : X → Type 0) (x : X) (xs : List X) → Any P (x ∷ xs) → P x ⊎ Any P xs
any_cases {X} P x xs a = at a.0 a.1 a.2 a.3 a.4
  where
    at : (k : ℕ) (z : X) → k < length (x ∷ xs) → get_or (x ∷ xs) k z ≡ z → P z → P x ⊎ Any P xs
    at zero z h e q = inl (rw e q)
    at (suc k) z h e q = inr (k, z, omega arith, e, q)

pub any_left : {X : Type 0} (P : X → Type 0) (xs ys : List X) → Any P xs → Any P (xs ++ ys)
any_left P [] ys a = absurd (any_none P a)
any_left P (x ∷ xs) ys a = elim (any_cases P x xs a) [ inl h ↦ any_head P x (xs ++ ys) h | inr h ↦ any_tail P x (xs ++ ys) (any_left P xs ys h) ]

pub any_right : {X : Type 0} (P : X → Type 0) (xs ys : List X) → Any P ys → Any P (xs ++ ys)
any_right P [] ys a = a
any_right P (x ∷ xs) ys a = any_tail P x (xs ++ ys) (any_right P xs ys a)

pub any_parts : {X : Type 0} (P : X → Type 0) (xs ys : List X) → Any P (xs ++ ys) → Any P xs ⊎ Any P ys
any_parts P [] ys a = inr a
any_parts P (x ∷ xs) ys a =
    elim (any_cases P x (xs ++ ys) a) [
      | inl h ↦ inl (any_head P x xs h)
      | inr h ↦ elim (any_parts P xs ys h) [ inl g ↦ inl (any_tail P x xs g) | inr g ↦ inr g ]
    ]
