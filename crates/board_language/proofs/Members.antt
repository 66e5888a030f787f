-- The members of lists.
use Rattle.std.proofs.Common.{◌≡◌, refl, sym, ap, subst, map, ℕ, zero, suc, ◌<◌, ◌⊎◌, inl, inr, List, [], ◌∷◌, ◌++◌, length, get_or, arith}
use Rattle.std.specs.Prelude.{flat_map}
use Rattle.std.specs.List.{All}
use Rattle.classes.specs.Classes.{IsOneOf}

pub one_of_append : {A : Type 0} (x : A) (xs ys : List A) → IsOneOf x (xs ++ ys) → IsOneOf x xs ⊎ IsOneOf x ys
unfolding IsOneOf
one_of_append x [] ys h = inr h
one_of_append x (y ∷ xs) ys (inl e) = inl (inl e)
one_of_append x (y ∷ xs) ys (inr i) = elim (one_of_append x xs ys i) [ inl j ↦ inl (inr j) | inr k ↦ inr k ]

pub one_of_flat : {A B : Type 0} (f : A → List B) (x : B) (as_ : List A) → IsOneOf x (flat_map f as_) → (a : A) × IsOneOf a as_ × IsOneOf x (f a)
unfolding IsOneOf
one_of_flat f x [] h = absurd h
one_of_flat f x (a ∷ as_) h = elim (one_of_append x (f a) (flat_map f as_) h) [
  | inl i ↦ (a, inl refl, i)
  | inr j ↦ let r = one_of_flat f x as_ j in (r.0, inr r.1, r.2)
]

-- an element of the list, or what stands past its end
pub get_or_is : {A : Type 0} (P : A → Type 0) (xs : List A) (n : ℕ) (d : A) → P d → ((x : A) → IsOneOf x xs → P x) → P (get_or xs n d)
unfolding IsOneOf
get_or_is P [] n d h all = h
get_or_is P (x ∷ xs) zero d h all = all x (inl refl)
get_or_is P (x ∷ xs) (suc n) d h all = get_or_is P xs n d h (λ y i. all y (inr i))

pub append_left : {A : Type 0} (x : A) (xs ys : List A) → IsOneOf x xs → IsOneOf x (xs ++ ys)
unfolding IsOneOf
append_left x [] ys h = absurd h
append_left x (y ∷ xs) ys (inl e) = inl e
append_left x (y ∷ xs) ys (inr i) = inr (append_left x xs ys i)

pub append_right : {A : Type 0} (x : A) (xs ys : List A) → IsOneOf x ys → IsOneOf x (xs ++ ys)
unfolding IsOneOf
append_right x [] ys h = h
append_right x (y ∷ xs) ys h = inr (append_right x xs ys h)

pub flat_one_of : {A B : Type 0} (f : A → List B) (x : B) (a : A) (as_ : List A) → IsOneOf a as_ → IsOneOf x (f a) → IsOneOf x (flat_map f as_)
unfolding IsOneOf
flat_one_of f x a [] h g = absurd h
flat_one_of {A} {B} f x a (b ∷ as_) (inl e) g = append_left x (f b) (flat_map f as_) (subst (λ (c : A). IsOneOf x (f c)) e g)
flat_one_of f x a (b ∷ as_) (inr i) g = append_right x (f b) (flat_map f as_) (flat_one_of f x a as_ i g)

pub one_of_map : {A B : Type 0} (f : A → B) (y : B) (xs : List A) → IsOneOf y (map f xs) → (x : A) × IsOneOf x xs × (y ≡ f x)
unfolding IsOneOf
one_of_map f y [] h = absurd h
one_of_map f y (x ∷ xs) (inl e) = (x, inl refl, e)
one_of_map f y (x ∷ xs) (inr i) = let r = one_of_map f y xs i in (r.0, inr r.1, r.2)

pub map_one_of : {A B : Type 0} (f : A → B) (x : A) (xs : List A) → IsOneOf x xs → IsOneOf (f x) (map f xs)
unfolding IsOneOf
map_one_of f x [] h = absurd h
map_one_of f x (y ∷ xs) (inl e) = inl (ap f e)
map_one_of f x (y ∷ xs) (inr i) = inr (map_one_of f x xs i)

-- lists of one length are the same where each of their items is
pub same_lists : {X : Type 0} (d : X) (xs ys : List X) → length xs ≡ length ys → ((i : ℕ) → i < length xs → get_or xs i d ≡ get_or ys i d) → xs ≡ ys
same_lists d [] [] e h = refl
same_lists d [] (y ∷ ys) e h = absurd (omega (arith, e))
same_lists d (x ∷ xs) [] e h = absurd (omega (arith, e))
same_lists d (x ∷ xs) (y ∷ ys) e h =
    let head : x ≡ y = h zero (omega arith) in
    let tail : xs ≡ ys = same_lists d xs ys (omega (arith, e)) (λ i l. h (suc i) (omega (arith, l))) in
    λ j. head j ∷ tail j

-- what holds of each of a list holds of one of them
pub all_one_of : {A : Type 0} (P : A → Type 0) (xs : List A) (x : A) → All P xs → IsOneOf x xs → P x
unfolding IsOneOf
all_one_of P [] x h i = absurd i
all_one_of P (y ∷ xs) x h (inl e) = subst P (sym e) (h 0 y (omega arith))
all_one_of P (y ∷ xs) x h (inr i) = all_one_of P xs x (λ k d l. h (suc k) d (omega (arith, l))) i
