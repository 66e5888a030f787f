-- Two places in one list.
use Rattle.std.proofs.Common.{◌≡◌, ◌∙◌, refl, ap, sym, List, [], ◌∷◌, ◌++◌, inl, inr}
use Rattle.std.specs.Prelude.{◌⊎◌}

abbrev first_or : {X : Type 0} → X → List X → X
first_or d [] = d
first_or d (x ∷ xs) = x

abbrev rest : {X : Type 0} → List X → List X
rest [] = []
rest (x ∷ xs) = xs

pub first_same : {X : Type 0} (x y : X) (xs ys : List X) → x ∷ xs ≡ y ∷ ys → x ≡ y
first_same x y xs ys e = ap (first_or x) e

pub rest_same : {X : Type 0} (x y : X) (xs ys : List X) → x ∷ xs ≡ y ∷ ys → xs ≡ ys
rest_same x y xs ys e = ap rest e

-- the two are one place
pub record AreOne {X : Type 0} (before after other behind : List X) (x y : X) : Type 0 where
  pub front : before ≡ other
  pub item : x ≡ y
  pub back : after ≡ behind

-- the item behind the one front stands in the other front
pub record IsWithin {X : Type 0} (before other : List X) (x : X) : Type 0 where
  pub rest : List X
  pub is : other ≡ before ++ x ∷ rest

pub compared : {X : Type 0} (before after other behind : List X) (x y : X) → before ++ x ∷ after ≡ other ++ y ∷ behind
    → AreOne before after other behind x y ⊎ (IsWithin before other x ⊎ IsWithin other before y)
compared [] after [] behind x y e = inl (record { front = refl; item = first_same x y after behind e; back = rest_same x y after behind e })
compared [] after (o ∷ other) behind x y e =
    inr (inl (record { rest = other; is = ap (λ k. k ∷ other) (sym (first_same x o after (other ++ y ∷ behind) e)) }))
compared (b ∷ before) after [] behind x y e =
    inr (inr (record { rest = before; is = ap (λ k. k ∷ before) (first_same b y (before ++ x ∷ after) behind e) }))
compared (b ∷ before) after (o ∷ other) behind x y e =
    let head = first_same b o (before ++ x ∷ after) (other ++ y ∷ behind) e in
    elim (compared before after other behind x y (rest_same b o (before ++ x ∷ after) (other ++ y ∷ behind) e)) [
      | inl s ↦ inl (record { front = ap (λ k. k ∷ before) head ∙ ap (λ k. o ∷ k) s.front; item = s.item; back = s.back })
      | inr (inl w) ↦ inr (inl (record { rest = w.rest; is = ap (λ k. o ∷ k) w.is ∙ ap (λ k. k ∷ (before ++ x ∷ w.rest)) (sym head) }))
      | inr (inr w) ↦ inr (inr (record { rest = w.rest; is = ap (λ k. b ∷ k) w.is ∙ ap (λ k. k ∷ (other ++ y ∷ w.rest)) head }))
    ]
