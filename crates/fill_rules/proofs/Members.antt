-- The members of lists that stand only where a test holds, and of lists of which some member is so.
use Rattle.std.proofs.Common.{◌≡◌, refl, sym, subst, inl, inr, List, [], ◌∷◌}
use Rattle.std.specs.Prelude.{Bool, true, false, Any}
use Rattle.classes.specs.Classes.{IsOneOf}
use Rattle.plane.proofs.Lists.{any_none, any_cases}
use Rattle.fill_rules.specs.Needs.{keep_when}

pub one_of_when : {A : Type 0} (b : Bool) (x : A) (xs : List A) → IsOneOf x (keep_when b xs) → IsOneOf x xs
unfolding IsOneOf
one_of_when true x xs h = h
one_of_when false x xs h = absurd h

pub when_is : {A : Type 0} (b : Bool) (x : A) (xs : List A) → IsOneOf x (keep_when b xs) → (b ≡ true) × IsOneOf x xs
unfolding IsOneOf
when_is true x xs h = (refl, h)
when_is false x xs h = absurd h

pub is_when : {A : Type 0} (b : Bool) (x : A) (xs : List A) → b ≡ true → IsOneOf x xs → IsOneOf x (keep_when b xs)
is_when b x xs e h = subst (λ (c : Bool). IsOneOf x (keep_when c xs)) (sym e) h

-- some element of a list, as one of it
pub some_one_of : {A : Type 0} (P : A → Type 0) (xs : List A) → Any P xs → (x : A) × IsOneOf x xs × P x
unfolding IsOneOf
some_one_of P [] a = absurd (any_none P a)
some_one_of P (x ∷ xs) a = elim (any_cases P x xs a) [
  | inl h ↦ (x, inl refl, h)
  | inr r ↦ let s = some_one_of P xs r in (s.0, inr s.1, s.2)
]
