-- The order of pairs is a strict total one, and what can be told.
use Rattle.std.proofs.Common.{◌≡◌, sym, subst, ap, ◌∙◌, ℕ, ◌<◌, List, [], ◌∷◌, ◌⊎◌, inl, inr, arith}
use Rattle.std.specs.Prelude.{ℤ, ◌<ℤ◌}
use Rattle.std.proofs.lemmas.Int.{ints, by_lt_z}
use Rattle.std.proofs.lemmas.Bool.{cases_eq, cases_order}
use Rattle.classes.specs.Classes.{IsOneOf}
use Rattle.ratsnest.specs.declared.Anchor.{Anchor}
use Rattle.ratsnest.specs.declared.Pair.{Pair}
use Rattle.ratsnest.specs.Ratsnest.{dist_sq, HasLesserKey}

abbrev Key : ℤ → ℕ → ℕ → ℤ → ℕ → ℕ → Type 0
Key d i j e k l = (d <ℤ e) ⊎ ((d ≡ e) × ((i < k) ⊎ ((i ≡ k) × (j < l))))

key_irr : (d : ℤ) (i j : ℕ) → Key d i j d i j → ⊥
key_irr d i j h = omega (arith, ints, h)

key_trans : (d : ℤ) (i j : ℕ) (e : ℤ) (k l : ℕ) (f : ℤ) (m n : ℕ) → Key d i j e k l → Key e k l f m n → Key d i j f m n
key_trans d i j e k l f m n (inl p) (inl q) = inl (omega (arith, ints))
key_trans d i j e k l f m n (inl p) (inr (q, r)) = inl (omega (arith, ints))
key_trans d i j e k l f m n (inr (p, r)) (inl q) = inl (omega (arith, ints))
key_trans d i j e k l f m n (inr (p, inl r)) (inr (q, inl s)) = inr (p ∙ q, inl (omega arith))
key_trans d i j e k l f m n (inr (p, inl r)) (inr (q, inr (s, t))) = inr (p ∙ q, inl (omega arith))
key_trans d i j e k l f m n (inr (p, inr (r, u))) (inr (q, inl s)) = inr (p ∙ q, inl (omega arith))
key_trans d i j e k l f m n (inr (p, inr (r, u))) (inr (q, inr (s, t))) = inr (p ∙ q, inr (r ∙ s, omega arith))

key_cases : (d : ℤ) (i j : ℕ) (e : ℤ) (k l : ℕ) → Key d i j e k l ⊎ (((d ≡ e) × ((i ≡ k) × (j ≡ l))) ⊎ Key e k l d i j)
key_cases d i j e k l = by_lt_z {P = Key d i j e k l ⊎ (((d ≡ e) × ((i ≡ k) × (j ≡ l))) ⊎ Key e k l d i j)} d e (λ h. inl (inl h))
    (λ h. by_lt_z {P = Key d i j e k l ⊎ (((d ≡ e) × ((i ≡ k) × (j ≡ l))) ⊎ Key e k l d i j)} e d (λ g. inr (inr (inl g)))
    (λ g. let s : d ≡ e = omega (arith, ints, h, g) in elim (cases_order i k) [
      | inl p ↦ elim (cases_order j l) [
        | inl q ↦ inr (inl (s, (p, q)))
        | inr o ↦ elim o [ inl q ↦ inl (inr (s, inr (p, q))) | inr q ↦ inr (inr (inr (sym s, inr (sym p, q)))) ]
      ]
      | inr o ↦ elim o [ inl p ↦ inl (inr (s, inl p)) | inr p ↦ inr (inr (inr (sym s, inl p))) ]
    ]))

pub less_irr : (xs : List Anchor) (e : Pair) → HasLesserKey xs e e → ⊥
unfolding HasLesserKey
less_irr xs e h = key_irr (dist_sq xs e) e.first e.second h

pub less_trans : (xs : List Anchor) (e f g : Pair) → HasLesserKey xs e f → HasLesserKey xs f g → HasLesserKey xs e g
unfolding HasLesserKey
less_trans xs e f g h k = key_trans (dist_sq xs e) e.first e.second (dist_sq xs f) f.first f.second (dist_sq xs g) g.first g.second h k

pub pair_same : (e f : Pair) → e.first ≡ f.first → e.second ≡ f.second → e ≡ f
pair_same e f p q = ap (λ x. record { first = x; second = e.second }) p ∙ ap (λ y. record { first = f.first; second = y }) q

pub less_cases : (xs : List Anchor) (e f : Pair) → HasLesserKey xs e f ⊎ ((e ≡ f) ⊎ HasLesserKey xs f e)
unfolding HasLesserKey
less_cases xs e f = elim (key_cases (dist_sq xs e) e.first e.second (dist_sq xs f) f.first f.second) [
  | inl h ↦ inl h
  | inr o ↦ elim o [ inl h ↦ inr (inl (pair_same e f h.1.0 h.1.1)) | inr h ↦ inr (inr h) ]
]

pub is_one : (c : ℕ) (done : List ℕ) → IsOneOf c done ⊎ (IsOneOf c done → ⊥)
unfolding IsOneOf
is_one c [] = inr (λ i. i)
is_one c (d ∷ done) = elim (cases_eq c d) [
  | inl e ↦ inl (inl e)
  | inr n ↦ elim (is_one c done) [ inl i ↦ inl (inr i) | inr m ↦ inr (λ o. elim o [ inl e ↦ n e | inr i ↦ m i ]) ]
]

pub is_pair_of : (xs : List Anchor) (e : Pair) (es : List Pair) → IsOneOf e es ⊎ (IsOneOf e es → ⊥)
unfolding IsOneOf
is_pair_of xs e [] = inr (λ i. i)
is_pair_of xs e (f ∷ es) = elim (is_pair_of xs e es) [
  | inl i ↦ inl (inr i)
  | inr m ↦ elim (less_cases xs e f) [
    | inl l ↦ inr (λ o. elim o [ inl p ↦ less_irr xs f (subst (λ x. HasLesserKey xs x f) p l) | inr i ↦ m i ])
    | inr o ↦ elim o [
      | inl p ↦ inl (inl p)
      | inr l ↦ inr (λ o. elim o [ inl p ↦ less_irr xs f (subst (λ x. HasLesserKey xs f x) p l) | inr i ↦ m i ])
    ]
  ]
]
