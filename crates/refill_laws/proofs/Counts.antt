-- How many tasks are filled again.
use Rattle.std.proofs.Common.{◌≡◌, refl, sym, subst, ℕ, zero, suc, ◌+◌, ◌<◌, ◌≤◌, inl, inr, List, [], ◌∷◌, ◌++◌, length, get_or, arith}
use Rattle.std.specs.Prelude.{◌↔◌, ◌⊎◌, Bool, true, false, cond}
use Rattle.std.proofs.lemmas.Bool.{cases_eq, cases_Bool, both_ways}
use Rattle.classes.specs.Classes.{IsOneOf}
use Rattle.board_language.specs.Board.{Board}
use Rattle.board_language.proofs.Members.{one_of_append, append_left, append_right}
use Rattle.fill_rules.specs.Tasks.{ranked}
use Rattle.fill_rules.specs.Ranking.{IsSortedBy}
use Rattle.output_rules.specs.Laws.{IsBelow}
use Rattle.dirty_rules.specs.Dirty.{IsInDirtySet, AreOldRanks}
use Rattle.fill_rules.specs.Made.{Made, no_fill}
use Rattle.fills.specs.Fills.{AreBoardFills}
use Rattle.refill_laws.specs.Walks.{AreFillsSoFar, HasOldPieces, TellsPieces, TellsChange, AreFilledAgain, IsDirtyByFlags, numbers_with, AreTasksWith}
use Rattle.refill_laws.specs.Laws.{CountLaw, DirtyCountLaw, OneCountLaw, BrokenWalkLaw}
use Rattle.refill_laws.proofs.Again.{again_law, dirty_set}

-- ---- how many there are

last_of : (n k : ℕ) (b : Bool) → IsOneOf k (cond b (n ∷ []) []) → (k ≡ n) × (b ≡ true)
unfolding IsOneOf
last_of n k true (inl e) = (e, refl)
last_of n k true (inr i) = absurd i
last_of n k false i = absurd i

last_in : (n : ℕ) (b : Bool) → b ≡ true → IsOneOf n (cond b (n ∷ []) [])
unfolding IsOneOf
last_in n b e = subst (λ (x : Bool). IsOneOf n (cond x (n ∷ []) [])) (sym e) (inl refl)

last_sorted : (n : ℕ) (b : Bool) → IsSortedBy IsBelow (cond b (n ∷ []) [])
unfolding IsSortedBy IsOneOf
last_sorted n true = (λ y i. absurd i, tt)
last_sorted n false = tt

sorted_append : (xs ys : List ℕ) → IsSortedBy IsBelow xs → IsSortedBy IsBelow ys → ((x y : ℕ) → IsOneOf x xs → IsOneOf y ys → x < y)
    → IsSortedBy IsBelow (xs ++ ys)
unfolding IsSortedBy IsOneOf
sorted_append [] ys h g f = g
sorted_append (x ∷ xs) ys h g f = (
  λ y i. elim (one_of_append y xs ys i) [ inl j ↦ h.0 y j | inr j ↦ f x y (inl refl) j ],
  sorted_append xs ys h.1 g (λ u v i j. f u v (inr i) j),
)

module _ (test : ℕ → Bool) where
  numbers_are : (n k : ℕ) → IsOneOf k (numbers_with test n) → (k < n) × (test k ≡ true)
  unfolding IsOneOf
  numbers_are zero k h = absurd h
  numbers_are (suc n) k h = elim (one_of_append k (numbers_with test n) (cond (test n) (n ∷ []) []) h) [
    | inl i ↦ let r = numbers_are n k i in let q : k < n = r.0 in (omega arith, r.1)
    | inr i ↦ let r = last_of n k (test n) i in (omega (arith, r.0), subst (λ (j : ℕ). test j ≡ true) (sym r.0) r.1)
  ]

  numbers_have : (n k : ℕ) → k < n → test k ≡ true → IsOneOf k (numbers_with test n)
  numbers_have zero k h e = absurd (omega (arith, h))
  numbers_have (suc n) k h e = elim (cases_eq k n) [
    | inl q ↦ append_right k (numbers_with test n) (cond (test n) (n ∷ []) [])
        (subst (λ (j : ℕ). IsOneOf j (cond (test n) (n ∷ []) [])) (sym q) (last_in n (test n) (subst (λ (j : ℕ). test j ≡ true) q e)))
    | inr ne ↦ append_left k (numbers_with test n) (cond (test n) (n ∷ []) []) (numbers_have n k (omega (arith, ne, h)) e)
  ]

  numbers_sorted : (n : ℕ) → IsSortedBy IsBelow (numbers_with test n)
  unfolding IsSortedBy
  numbers_sorted zero = tt
  numbers_sorted (suc n) =
      sorted_append (numbers_with test n) (cond (test n) (n ∷ []) []) (numbers_sorted n) (last_sorted n (test n))
      (λ x y i j. let l : x < n = (numbers_are n x i).0 in let e : y ≡ n = (last_of n y (test n) j).0 in omega arith)

listed : (d : Board) (again : ℕ → Bool) (member : ℕ → Type 0) → ((k : ℕ) → k < length (ranked d) → (again k ≡ true) ↔ member k)
    → AreTasksWith d member (numbers_with again (length (ranked d)))
listed d again member h = record {
  sorted = numbers_sorted again (length (ranked d));
  members = λ k. (
    λ i. let r = numbers_are again (length (ranked d)) k i in (r.0, (h k r.0).0 r.1),
    λ r. numbers_have again (length (ranked d)) k r.0 ((h k r.0).1 r.1),
  );
}

pub count_law : CountLaw
count_law d flagged changed again a = listed d again (λ (k : ℕ). IsDirtyByFlags d flagged changed k) (again_law d (length (ranked d)) flagged changed again a)

pub dirty_count : DirtyCountLaw
dirty_count text list rules d flagged changed again flags a =
    listed d again (λ (k : ℕ). IsInDirtySet text list rules d changed k) (dirty_set text list rules d flagged changed again flags a)

-- ---- a list in order has at most as many as one that has all of it

least : (x k : ℕ) (xs : List ℕ) → IsSortedBy IsBelow (x ∷ xs) → IsOneOf k (x ∷ xs) → (k ≡ x) ⊎ (x < k)
unfolding IsSortedBy IsOneOf
least x k xs s (inl e) = inl e
least x k xs s (inr i) = inr (s.0 k i)

above : (x k : ℕ) (xs : List ℕ) → IsSortedBy IsBelow (x ∷ xs) → IsOneOf k xs → x < k
unfolding IsSortedBy
above x k xs s i = s.0 k i

rest : (x : ℕ) (xs : List ℕ) → IsSortedBy IsBelow (x ∷ xs) → IsSortedBy IsBelow xs
unfolding IsSortedBy
rest x xs s = s.1

head_in : (x : ℕ) (xs : List ℕ) → IsOneOf x (x ∷ xs)
unfolding IsOneOf
head_in x xs = inl refl

rest_in : (x k : ℕ) (xs : List ℕ) → IsOneOf k xs → IsOneOf k (x ∷ xs)
unfolding IsOneOf
rest_in x k xs i = inr i

past : (y k : ℕ) (ys : List ℕ) → IsOneOf k (y ∷ ys) → (k ≡ y → ⊥) → IsOneOf k ys
unfolding IsOneOf
past y k ys (inl e) n = absurd (n e)
past y k ys (inr i) n = i

nothing : (k : ℕ) → IsOneOf k [] → ⊥
unfolding IsOneOf
nothing k i = i

pub no_more : (xs ys : List ℕ) → IsSortedBy IsBelow xs → IsSortedBy IsBelow ys → ((k : ℕ) → IsOneOf k xs → IsOneOf k ys) → length xs ≤ length ys
no_more [] ys s t f = omega arith
no_more (x ∷ xs) [] s t f = absurd (nothing x (f x (head_in x xs)))
no_more (x ∷ xs) (y ∷ ys) s t f = elim (least y x ys t (f x (head_in x xs))) [
  | inl e ↦ let r : length xs ≤ length ys = no_more xs ys (rest x xs s) (rest y ys t)
      (λ k i. past y k ys (f k (rest_in x k xs i)) (λ q. omega (arith, above x k xs s i, e, q))) in omega (arith, r)
  | inr l ↦ let r : length (x ∷ xs) ≤ length ys = no_more (x ∷ xs) ys s (rest y ys t) (λ k i. past y k ys (f k i) (other k i l)) in omega (arith, r)
]
  where
    other : (k : ℕ) → IsOneOf k (x ∷ xs) → y < x → k ≡ y → ⊥
    other k i l q = omega (arith, least x k xs s i, l, q)

pub one_count : OneCountLaw
one_count d flagged changed ranks others h g =
    let to : length ranks ≤ length others = no_more ranks others h.sorted g.sorted (λ k i. (g.members k).1 ((h.members k).0 i)) in
    let back : length others ≤ length ranks = no_more others ranks g.sorted h.sorted (λ k i. (h.members k).1 ((g.members k).0 i)) in
    omega (arith, to, back)

-- ---- a walk that was broken off

same_told : (told changed : Bool) (P : Type 0) → (told ≡ false) ↔ P → (changed ≡ false) ↔ P → told ≡ true → changed ≡ true
same_told told changed P t c e = elim (cases_Bool changed) [
  | inl x ↦ x
  | inr x ↦ absurd (both_ways told (t.1 (c.0 x)) e)
]

module _ (b d : Board) (old : ℕ → ℕ) (olds fills : List Made) (flagged told changed again : ℕ → Bool) (ranks : AreOldRanks b d old) (filled : AreBoardFills b olds)
    (right : AreFillsSoFar d fills) (tells : TellsPieces old olds fills told) (true_ones : TellsChange b d old changed) (n : ℕ)
    (most : n ≤ length (ranked d)) (known : n ≤ length fills + 1) (a : AreFilledAgain d n flagged told again)
  where
    told_right : (m : ℕ) → m < length fills → m < length (ranked d) → (told m ≡ true → changed m ≡ true) × (changed m ≡ true → told m ≡ true)
    told_right m l w =
        let c = true_ones.each m w (get_or olds (old m) no_fill) (get_or fills m no_fill)
        (filled.each (old m) (subst (λ (z : ℕ). old m < z) (sym filled.count) (ranks m w).within)) (right.each m l) in (
          same_told (told m) (changed m) (HasOldPieces olds old fills m) (tells.each m l) c,
          same_told (changed m) (told m) (HasOldPieces olds old fills m) c (tells.each m l),
        )

    pub by_changes : AreFilledAgain d n flagged changed again
    by_changes = record {
      each = λ k l. (
        λ e. elim ((a.each k l).0 e) [
          | inl f ↦ inl f
          | inr r ↦ inr (r.0, r.1, r.2, (told_right r.0 (omega (arith, r.1.above, l, known)) (omega (arith, r.1.above, l, most))).0 r.3)
        ],
        λ h. (a.each k l).1 (elim h [
          | inl f ↦ inl f
          | inr r ↦ inr (r.0, r.1, r.2, (told_right r.0 (omega (arith, r.1.above, l, known)) (omega (arith, r.1.above, l, most))).1 r.3)
        ]),
      );
    }

    broken : (all : List ℕ) → AreTasksWith d (λ (k : ℕ). IsDirtyByFlags d flagged changed k) all → length (numbers_with again n) ≤ length all
    broken all h = no_more (numbers_with again n) all (numbers_sorted again n) h.sorted (λ k i.
        let r = numbers_are again n k i in
        let l : k < n = r.0 in
        (h.members k).1 (omega (arith, l, most), (again_law d n flagged changed again by_changes k l).0 r.1))

pub broken_walk : BrokenWalkLaw
broken_walk b d old olds fills flagged told changed again ranks filled right tells true_ones n most known a all h =
    broken b d old olds fills flagged told changed again ranks filled right tells true_ones n most known a all h
