-- What is in a list: in two lists joined, by its place, and as std says it.
use Rattle.std.proofs.Common.{◌≡◌, refl, sym, ◌∙◌, ap, subst, ℕ, zero, suc, ◌<◌, ◌⊎◌, inl, inr, arith, List, [], ◌∷◌, ◌++◌, length, get_or}
use Rattle.std.specs.Prelude.{◌↔◌, ◌==◌, Bool, IsTrue, slice_get, Some, Any}
use Rattle.std.proofs.lemmas.Bool.Decides.{Decides-eqb}
use Rattle.std.specs.List.{All}
use Rattle.std.proofs.lemmas.Option.{slice_get_within, slice_get_read, get_or_from_slice_get}
use Rattle.plane.specs.Plane.{Bounds, IsMeeting}
use Rattle.classes.specs.Classes.{IsOneOf}
use Rattle.islands.specs.Parts.{IsMeetingAt}

pub one_front : {A : Type 0} (x : A) (xs ys : List A) → IsOneOf x xs → IsOneOf x (xs ++ ys)
unfolding IsOneOf
one_front x [] ys i = absurd i
one_front x (z ∷ xs) ys (inl e) = inl e
one_front x (z ∷ xs) ys (inr i) = inr (one_front x xs ys i)

pub one_back : {A : Type 0} (x : A) (xs ys : List A) → IsOneOf x ys → IsOneOf x (xs ++ ys)
unfolding IsOneOf
one_back x [] ys i = i
one_back x (z ∷ xs) ys i = inr (one_back x xs ys i)

pub one_split : {A : Type 0} (x : A) (xs ys : List A) → IsOneOf x (xs ++ ys) → IsOneOf x xs ⊎ IsOneOf x ys
unfolding IsOneOf
one_split x [] ys i = inr i
one_split x (z ∷ xs) ys (inl e) = inl (inl e)
one_split x (z ∷ xs) ys (inr i) = elim (one_split x xs ys i) [ inl j ↦ inl (inr j) | inr j ↦ inr j ]

-- a list with one more at its end
pub one_last : {A : Type 0} (x : A) (xs : List A) → IsOneOf x (xs ++ (x ∷ []))
unfolding IsOneOf
one_last x xs = one_back x xs (x ∷ []) (inl refl)

pub last_split : {A : Type 0} (x y : A) (xs : List A) → IsOneOf x (xs ++ (y ∷ [])) → IsOneOf x xs ⊎ (x ≡ y)
unfolding IsOneOf
last_split x y xs i = elim (one_split x xs (y ∷ []) i) [ inl j ↦ inl j | inr j ↦ elim j [ inl e ↦ inr e | inr n ↦ absurd n ] ]

pub only_one : {A : Type 0} (x y : A) → IsOneOf x (y ∷ []) → x ≡ y
unfolding IsOneOf
only_one x y (inl e) = e
only_one x y (inr n) = absurd n

pub one_only : {A : Type 0} (x : A) → IsOneOf x (x ∷ [])
unfolding IsOneOf
one_only x = inl refl

pub none_in : {A : Type 0} (x : A) → IsOneOf x [] → ⊥
unfolding IsOneOf
none_in x i = i

pub one_at : {A : Type 0} (xs : List A) (k : ℕ) (d : A) → k < length xs → IsOneOf (get_or xs k d) xs
unfolding IsOneOf
one_at [] k d l = absurd (omega (arith, l))
one_at (x ∷ xs) zero d l = inl refl
one_at (x ∷ xs) (suc k) d l = inr (one_at xs k d (omega (arith, l)))

pub one_place : {A : Type 0} (x : A) (xs : List A) → IsOneOf x xs → (k : ℕ) × (k < length xs) × ((d : A) → get_or xs k d ≡ x)
unfolding IsOneOf
one_place x [] i = absurd i
one_place x (y ∷ ys) (inl e) = (zero, omega arith, λ d. sym e)
one_place x (y ∷ ys) (inr i) = let r = one_place x ys i in (suc r.0, (let l = r.1 in omega (arith, l)), r.2)

pub all_of : {A : Type 0} (P : A → Type 0) (xs : List A) → ((x : A) → IsOneOf x xs → P x) → All P xs
all_of P xs h k d l = h (get_or xs k d) (one_at xs k d l)

pub of_all : {A : Type 0} (P : A → Type 0) (xs : List A) → All P xs → (x : A) → IsOneOf x xs → P x
of_all P xs h x i = let r = one_place x xs i in subst P (r.2 x) (h r.0 x r.1)

pub any_one : {A : Type 0} (P : A → Type 0) (xs : List A) → Any P xs ↔ ((x : A) × IsOneOf x xs × P x)
any_one P xs = (
  λ a. (a.1, subst (λ y. IsOneOf y xs) a.3 (one_at xs a.0 a.1 a.2), a.4),
  λ b. let r = one_place b.0 xs b.1 in (r.0, b.0, r.1, r.2 b.0, b.2),
)

-- ---- octagons by their places
pub same_there : (octs : List Bounds) (k : ℕ) (a b : Bounds) → slice_get octs k ≡ Some a → slice_get octs k ≡ Some b → a ≡ b
same_there octs k a b e f = sym (get_or_from_slice_get octs k a a e) ∙ get_or_from_slice_get octs k b a f

pub met_at : (octs : List Bounds) (j k : ℕ) (a b : Bounds) → j < length octs → k < length octs → a ≡ get_or octs j a → b ≡ get_or octs k b → IsMeeting a b → IsMeetingAt octs j k
met_at octs j k a b l m e f h = record {
  first = a;
  second = b;
  at_first = slice_get_read octs (length octs) j a refl l e;
  at_second = slice_get_read octs (length octs) k b refl m f;
  meet = h;
}

pub at_met : (octs : List Bounds) (j k : ℕ) (a b : Bounds) → j < length octs → k < length octs → a ≡ get_or octs j a → b ≡ get_or octs k b → IsMeetingAt octs j k → IsMeeting a b
at_met octs j k a b l m e f h =
    subst (λ y. IsMeeting a y) (same_there octs k h.second b h.at_second (slice_get_read octs (length octs) k b refl m f))
    (subst (λ x. IsMeeting x h.second) (same_there octs j h.first a h.at_first (slice_get_read octs (length octs) j a refl l e)) h.meet)

pub second_within : (octs : List Bounds) (j k : ℕ) → IsMeetingAt octs j k → k < length octs
second_within octs j k h = slice_get_within octs k h.second h.at_second

-- ---- no items
pub none_of : {A : Type 0} (xs : List A) → length xs ≡ 0 → xs ≡ []
none_of [] e = refl
none_of (x ∷ xs) e = absurd (omega (arith, e))

pub empty_is : {A : Type 0} (xs : List A) (t : Bool) → t ≡ (length xs == 0) → IsTrue t ↔ (xs ≡ [])
empty_is xs t e = (λ x. none_of xs ((Decides-eqb (length xs) 0).0 (sym e ∙ x)), λ n. e ∙ (Decides-eqb (length xs) 0).1 (ap (λ ys. length ys) n))
