-- Which numbers are in the lists that a report has of clusters.
use Rattle.std.proofs.Common.{◌≡◌, refl, sym, ◌∙◌, ap, subst, arith, ℕ, zero, suc, ◌+◌, ◌<◌, ◌⊎◌, inl, inr, Bool, true, false, List, [], ◌∷◌, length, get_or, filter, cond}
use Rattle.std.specs.Prelude.{◌==◌}
use Rattle.classes.specs.Classes.{IsOneOf}
use Rattle.fill_rules.specs.Nodes.{passing_places, firsts_from}
use Rattle.fill_rules.proofs.Anchors.{eq_true}
use Rattle.output_rules.specs.Reported.{members_of}

-- ---- choices

-- what is in one of two lists
pub in_choice : {A : Type 0} (b : Bool) (x : A) (xs ys : List A) → IsOneOf x (cond b xs ys) → ((b ≡ true) × IsOneOf x xs) ⊎ ((b ≡ false) × IsOneOf x ys)
in_choice true x xs ys h = inl (refl, h)
in_choice false x xs ys h = inr (refl, h)

pub first_choice : {A : Type 0} (b : Bool) (x : A) (xs ys : List A) → b ≡ true → IsOneOf x xs → IsOneOf x (cond b xs ys)
first_choice true x xs ys e h = h
first_choice false x xs ys e h = absurd (cc e)

pub either_choice : {A : Type 0} (b : Bool) (x : A) (xs ys : List A) → IsOneOf x xs → IsOneOf x ys → IsOneOf x (cond b xs ys)
either_choice true x xs ys h k = h
either_choice false x xs ys h k = k

pub later : {A : Type 0} (x y : A) (xs : List A) → IsOneOf x xs → IsOneOf x (y ∷ xs)
unfolding IsOneOf
later x y xs h = inr h

pub here : {A : Type 0} (x y : A) (xs : List A) → x ≡ y → IsOneOf x (y ∷ xs)
unfolding IsOneOf
here x y xs e = inl e

pub eq_same : (n : ℕ) → (n == n) ≡ true
eq_same n = grind arith

-- ---- the numbers of the places with a label

-- the number is that of a place of the list, counted from a first one, and this stands there
pub record IsPlaceOf (j : ℕ) (xs : List ℕ) (k label : ℕ) : Type 0 where
  pub steps : ℕ
  pub within : steps < length xs
  pub place : k ≡ j + steps
  pub is : get_or xs steps 0 ≡ label

step : (j : ℕ) (x : ℕ) (xs : List ℕ) (k label : ℕ) → IsPlaceOf (suc j) xs k label → IsPlaceOf j (x ∷ xs) k label
step j x xs k label h = record { steps = suc h.steps; within = (let w = h.within in omega (arith, w)); place = (let p = h.place in omega (arith, p)); is = h.is }

place_of : (label j k : ℕ) (xs : List ℕ) → IsOneOf k (passing_places (λ other. other == label) j xs) → IsPlaceOf j xs k label
unfolding IsOneOf
place_of label j k [] h = absurd h
place_of label j k (x ∷ xs) h =
    elim (in_choice (x == label) k (j ∷ passing_places (λ other. other == label) (suc j) xs) (passing_places (λ other. other == label) (suc j) xs) h) [
      | inl (e, inl f) ↦ record { steps = 0; within = omega arith; place = omega (arith, f); is = eq_true x label e }
      | inl (e, inr m) ↦ step j x xs k label (place_of label (suc j) k xs m)
      | inr (e, m) ↦ step j x xs k label (place_of label (suc j) k xs m)
    ]

at_place : (label j i : ℕ) (xs : List ℕ) → i < length xs → get_or xs i 0 ≡ label → IsOneOf (j + i) (passing_places (λ other. other == label) j xs)
at_place label j i [] l e = absurd (omega (arith, l))
at_place label j zero (x ∷ xs) l e =
    first_choice (x == label) (j + 0) _ _ (ap (λ n. x == n) (sym e) ∙ eq_same x) (here (j + 0) j (passing_places (λ other. other == label) (suc j) xs) (omega arith))
at_place label j (suc i) (x ∷ xs) l e =
    let m : IsOneOf (suc j + i) (passing_places (λ other. other == label) (suc j) xs) = at_place label (suc j) i xs (omega (arith, l)) e in
    let k : suc j + i ≡ j + suc i = omega arith in
    let n = subst (λ p. IsOneOf p (passing_places (λ other. other == label) (suc j) xs)) k m in
    either_choice (x == label) (j + suc i) _ _ (later (j + suc i) j _ n) n

-- a number is a member of a label's cluster exactly where its place has the label
pub member_is : (labels : List ℕ) (label k : ℕ) → IsOneOf k (members_of labels label) → (k < length labels) × (get_or labels k 0 ≡ label)
member_is labels label k h =
    let p = place_of label 0 k labels h in
    let e : k ≡ p.steps = omega (arith, p.place) in
    (subst (λ n. n < length labels) (sym e) p.within, subst (λ n. get_or labels n 0 ≡ label) (sym e) p.is)

pub is_member : (labels : List ℕ) (label k : ℕ) → k < length labels → get_or labels k 0 ≡ label → IsOneOf k (members_of labels label)
is_member labels label k l e = subst (λ n. IsOneOf n (members_of labels label)) (omega arith) (at_place label 0 k labels l e)

-- ---- labels: the places that have their own number

pub first_of : (j k : ℕ) (xs : List ℕ) → IsOneOf k (firsts_from j xs) → IsPlaceOf j xs k k
unfolding IsOneOf
first_of j k [] h = absurd h
first_of j k (x ∷ xs) h =
    elim (in_choice (x == j) k (j ∷ firsts_from (suc j) xs) (firsts_from (suc j) xs) h) [
      | inl (e, inl f) ↦ record { steps = 0; within = omega arith; place = omega (arith, f); is = eq_true x j e ∙ sym f }
      | inl (e, inr m) ↦ step j x xs k k (first_of (suc j) k xs m)
      | inr (e, m) ↦ step j x xs k k (first_of (suc j) k xs m)
    ]

at_first : (j i : ℕ) (xs : List ℕ) → i < length xs → get_or xs i 0 ≡ j + i → IsOneOf (j + i) (firsts_from j xs)
at_first j i [] l e = absurd (omega (arith, l))
at_first j zero (x ∷ xs) l e =
    let f : x ≡ j = omega (arith, e) in
    first_choice (x == j) (j + 0) _ _ (ap (λ n. n == j) f ∙ eq_same j) (here (j + 0) j (firsts_from (suc j) xs) (omega arith))
at_first j (suc i) (x ∷ xs) l e =
    let k : suc j + i ≡ j + suc i = omega arith in
    let m : IsOneOf (suc j + i) (firsts_from (suc j) xs) = at_first (suc j) i xs (omega (arith, l)) (e ∙ sym k) in
    let n = subst (λ p. IsOneOf p (firsts_from (suc j) xs)) k m in
    either_choice (x == j) (j + suc i) _ _ (later (j + suc i) j _ n) n

-- a number is a first one exactly where its place has it
pub first_is : (labels : List ℕ) (k : ℕ) → IsOneOf k (firsts_from 0 labels) → (k < length labels) × (get_or labels k 0 ≡ k)
first_is labels k h =
    let p = first_of 0 k labels h in
    let e : k ≡ p.steps = omega (arith, p.place) in
    (subst (λ n. n < length labels) (sym e) p.within, subst (λ n. get_or labels n 0 ≡ k) (sym e) p.is)

pub is_first : (labels : List ℕ) (k : ℕ) → k < length labels → get_or labels k 0 ≡ k → IsOneOf k (firsts_from 0 labels)
is_first labels k l e = let z : k ≡ 0 + k = omega arith in subst (λ n. IsOneOf n (firsts_from 0 labels)) (sym z) (at_first 0 k labels l (e ∙ z))

-- ---- those that pass

pub passes : {A : Type 0} (p : A → Bool) (x : A) (xs : List A) → IsOneOf x (filter p xs) → IsOneOf x xs × (p x ≡ true)
unfolding IsOneOf
passes p x [] h = absurd h
passes p x (y ∷ xs) h =
    elim (in_choice (p y) x (y ∷ filter p xs) (filter p xs) h) [
      | inl (e, inl f) ↦ (inl f, ap p f ∙ e)
      | inl (e, inr m) ↦ let r = passes p x xs m in (inr r.0, r.1)
      | inr (e, m) ↦ let r = passes p x xs m in (inr r.0, r.1)
    ]

pub passing : {A : Type 0} (p : A → Bool) (x : A) (xs : List A) → IsOneOf x xs → p x ≡ true → IsOneOf x (filter p xs)
unfolding IsOneOf
passing p x [] h e = absurd h
passing p x (y ∷ xs) (inl f) e = first_choice (p y) x _ _ (ap p (sym f) ∙ e) (here x y (filter p xs) f)
passing p x (y ∷ xs) (inr m) e = let r = passing p x xs m e in either_choice (p y) x _ _ (later x y (filter p xs) r) r
