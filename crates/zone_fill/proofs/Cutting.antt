-- The cuts of a list of things, one thing further.
use Rattle.std.proofs.Common.{◌≡◌, sym, subst, ◌⊎◌, inl, inr, ℕ, ◌+◌, ◌<◌, ◌≤◌, List, [], ◌∷◌, ◌++◌, length, get_or, take, map}
use Rattle.std.specs.Prelude.{ℤ, ◌↔◌, Any}
use Rattle.std.proofs.lemmas.List.{take_more, take_all}
use Rattle.plane.specs.Plane.{Bounds, Within, StrictlyWithin}
use Rattle.plane.proofs.Lists.{any_none, any_head, any_tail, any_left, any_right, any_cases, any_parts}
use Rattle.grid_sets.specs.Points.{HasPoint}
use Rattle.scan_rows.proofs.Lists.{has_end}
use Rattle.scan_rows.specs.Sets.{LosesAll}
use Rattle.centres.specs.Centres.{grown_wall, grown_need, IsBarredAt}
use Rattle.knockouts.specs.Obstacles.{need_of}
use Rattle.knockouts.specs.declared.obstacles.Need.{Need as Obstacle}
use Rattle.zone_fill.specs.Inner.Steps.{AreCutsFor}

any_end : {A : Type 0} (P : A → Type 0) (xs : List A) (a : A) → Any P (xs ++ a ∷ []) ↔ (Any P xs ⊎ P a)
any_end P xs a = (
  λ h. elim (any_parts P xs (a ∷ []) h) [ inl k ↦ inl k | inr k ↦ elim (any_cases P a [] k) [ inl p ↦ inr p | inr e ↦ absurd (any_none P e) ] ],
  λ h. elim h [ inl k ↦ any_left P xs (a ∷ []) k | inr p ↦ any_right P xs (a ∷ []) (any_head P a [] p) ],
)

pub no_cuts : {A : Type 0} (S : A → ℤ → ℤ → Type 0) → AreCutsFor S [] []
no_cuts S = record { same = λ x y. (λ h. absurd h, λ h. absurd (any_none (λ a. S a x y) h)) }

cut_end : {A : Type 0} (S : A → ℤ → ℤ → Type 0) (xs : List A) (a : A) (old new : List Bounds) → AreCutsFor S xs old
    → ((x y : ℤ) → HasPoint new x y ↔ (HasPoint old x y ⊎ S a x y)) → AreCutsFor S (xs ++ a ∷ []) new
cut_end S xs a old new c n = record {
  same = λ x y. (
    λ h. (any_end (λ t. S t x y) xs a).1 (elim ((n x y).0 h) [ inl k ↦ inl ((c.same x y).0 k) | inr s ↦ inr s ]),
    λ h. (n x y).1 (elim ((any_end (λ t. S t x y) xs a).0 h) [ inl k ↦ inl ((c.same x y).1 k) | inr s ↦ inr s ]),
  );
}

-- one thing further
pub cut_more : {A : Type 0} (S : A → ℤ → ℤ → Type 0) (xs : List A) (a : A) (i : ℕ) (old new : List Bounds) → i < length xs → a ≡ get_or xs i a
    → AreCutsFor S (take i xs) old → ((x y : ℤ) → HasPoint new x y ↔ (HasPoint old x y ⊎ S a x y)) → AreCutsFor S (take (i + 1) xs) new
cut_more S xs a i old new l e c n =
    subst (λ t. AreCutsFor S t new) (sym (take_more xs i a l)) (subst (λ b. AreCutsFor S (take i xs ++ b ∷ []) new) e (cut_end S (take i xs) a old new c n))

-- what is strictly inside one more octagon, where it has grid points
pub one_more : (cuts : List Bounds) (inside : Bounds) (S : ℤ → ℤ → Type 0) → ((x y : ℤ) → Within inside x y ↔ S x y)
    → (x y : ℤ) → HasPoint (cuts ++ inside ∷ []) x y ↔ (HasPoint cuts x y ⊎ S x y)
one_more cuts inside S w x y = (
  λ h. elim ((has_end cuts inside x y).0 h) [ inl k ↦ inl k | inr k ↦ inr ((w x y).0 k) ],
  λ h. (has_end cuts inside x y).1 (elim h [ inl k ↦ inl k | inr k ↦ inr ((w x y).1 k) ]),
)

-- the points of two lists
pub both : (os more : List Bounds) (x y : ℤ) → HasPoint (os ++ more) x y ↔ (HasPoint os x y ⊎ HasPoint more x y)
both [] more x y = (λ h. inr h, λ h. elim h [ inl e ↦ absurd e | inr k ↦ k ])
both (o ∷ os) more x y =
    let r = both os more x y in (
      λ h. elim h [ inl w ↦ inl (inl w) | inr k ↦ elim (r.0 k) [ inl m ↦ inl (inr m) | inr m ↦ inr m ] ],
      λ h. elim h [ inl k ↦ elim k [ inl w ↦ inl w | inr m ↦ inr (r.1 (inl m)) ] | inr m ↦ inr (r.1 (inr m)) ],
    )

-- some thing that is told by another
any_told : {A B : Type 0} (f : A → B) (P : B → Type 0) (xs : List A) → Any (λ a. P (f a)) xs ↔ Any P (map f xs)
any_told f P [] = (λ h. absurd (any_none (λ a. P (f a)) h), λ h. absurd (any_none P h))
any_told f P (x ∷ xs) =
    let r = any_told f P xs in (
      λ h. elim (any_cases (λ a. P (f a)) x xs h) [ inl p ↦ any_head P (f x) (map f xs) p | inr k ↦ any_tail P (f x) (map f xs) (r.0 k) ],
      λ h. elim (any_cases P (f x) (map f xs) h) [ inl p ↦ any_head (λ a. P (f a)) x xs p | inr k ↦ any_tail (λ a. P (f a)) x xs (r.1 k) ],
    )

-- the cuts by walls and those by needs
pub barred_cuts : (r : ℕ) (walls : List Bounds) (needs : List Obstacle) (os more all : List Bounds) → all ≡ os ++ more
    → AreCutsFor (λ w x y. StrictlyWithin (grown_wall r w) x y) walls os → AreCutsFor (λ n x y. StrictlyWithin (grown_need r (need_of n)) x y) needs more
    → (x y : ℤ) → HasPoint all x y ↔ IsBarredAt r walls (map need_of needs) x y
unfolding IsBarredAt
barred_cuts r walls needs os more all e f g x y =
    let t = any_told need_of (λ n. StrictlyWithin (grown_need r n) x y) needs in (
      λ h. elim ((both os more x y).0 (subst (λ t. HasPoint t x y) e h)) [ inl k ↦ inl ((f.same x y).0 k) | inr k ↦ inr (t.0 ((g.same x y).0 k)) ],
      λ h. subst (λ t. HasPoint t x y) (sym e) ((both os more x y).1 (elim h [ inl k ↦ inl ((f.same x y).1 k) | inr k ↦ inr ((g.same x y).1 (t.1 k)) ])),
    )

-- what is left of a set without its cuts
pub left_over : (old cuts new : List Bounds) (A B : ℤ → ℤ → Type 0) → LosesAll cuts old new → ((x y : ℤ) → HasPoint old x y ↔ A x y) → ((x y : ℤ) → HasPoint cuts x y ↔ B x y)
    → (x y : ℤ) → HasPoint new x y ↔ (A x y × (B x y → ⊥))
left_over old cuts new A B l f g x y = (
  λ h. let k = (l x y).0 h in ((f x y).0 k.0, λ b. k.1 ((g x y).1 b)),
  λ h. (l x y).1 ((f x y).1 h.0, λ k. h.1 ((g x y).0 k)),
)

-- all things are done
pub cuts_all : {A : Type 0} (S : A → ℤ → ℤ → Type 0) (xs : List A) (i : ℕ) (cuts : List Bounds) → length xs ≤ i → AreCutsFor S (take i xs) cuts → AreCutsFor S xs cuts
cuts_all S xs i cuts l c = subst (λ t. AreCutsFor S t cuts) (take_all i xs l) c
