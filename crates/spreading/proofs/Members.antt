-- What is in a list: in two lists joined, and by its place.
use Rattle.std.proofs.Common.{◌≡◌, refl, ℕ, zero, suc, ◌<◌, ◌⊎◌, inl, inr, arith, List, [], ◌∷◌, ◌++◌, length, get_or}
use Rattle.std.specs.List.{All}
use Rattle.classes.specs.Classes.{IsOneOf}

pub one_front : {A : Type 0} (x : A) (xs ys : List A) → IsOneOf x xs → IsOneOf x (xs ++ ys)
unfolding IsOneOf
one_front x [] ys i = absurd i
one_front x (z ∷ xs) ys (inl e) = inl e
one_front x (z ∷ xs) ys (inr i) = inr (one_front x xs ys i)

pub one_back : {A : Type 0} (x : A) (xs ys : List A) → IsOneOf x ys → IsOneOf x (xs ++ ys)
unfolding IsOneOf
one_back x [] ys i = i
one_back x (z ∷ xs) ys i = inr (one_back x xs ys i)

pub one_split : {A : Type 0} (x : A) (xs ys : List A) → IsOneOf x (xs ++ ys) → IsOneOf x xs ⊎ IsOneOf x ys
unfolding IsOneOf
one_split x [] ys i = inr i
one_split x (z ∷ xs) ys (inl e) = inl (inl e)
one_split x (z ∷ xs) ys (inr i) = elim (one_split x xs ys i) [ inl j ↦ inl (inr j) | inr j ↦ inr j ]

-- a list with one more at its end
pub one_last : {A : Type 0} (x : A) (xs : List A) → IsOneOf x (xs ++ (x ∷ []))
unfolding IsOneOf
one_last x xs = one_back x xs (x ∷ []) (inl refl)

pub last_split : {A : Type 0} (x y : A) (xs : List A) → IsOneOf x (xs ++ (y ∷ [])) → IsOneOf x xs ⊎ (x ≡ y)
unfolding IsOneOf
last_split x y xs i = elim (one_split x xs (y ∷ []) i) [ inl j ↦ inl j | inr j ↦ elim j [ inl e ↦ inr e | inr n ↦ absurd n ] ]

pub only_one : {A : Type 0} (x y : A) → IsOneOf x (y ∷ []) → x ≡ y
unfolding IsOneOf
only_one x y (inl e) = e
only_one x y (inr n) = absurd n

pub one_only : {A : Type 0} (x : A) → IsOneOf x (x ∷ [])
unfolding IsOneOf
one_only x = inl refl

pub none_in : {A : Type 0} (x : A) → IsOneOf x [] → ⊥
unfolding IsOneOf
none_in x i = i

pub one_at : {A : Type 0} (xs : List A) (k : ℕ) (d : A) → k < length xs → IsOneOf (get_or xs k d) xs
unfolding IsOneOf
one_at [] k d l = absurd (omega (arith, l))
one_at (x ∷ xs) zero d l = inl refl
one_at (x ∷ xs) (suc k) d l = inr (one_at xs k d (omega (arith, l)))

pub all_of : {A : Type 0} (P : A → Type 0) (xs : List A) → ((x : A) → IsOneOf x xs → P x) → All P xs
all_of P xs h k d l = h (get_or xs k d) (one_at xs k d l)
