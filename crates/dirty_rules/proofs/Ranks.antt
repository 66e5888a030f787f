-- A task has one rank on a board, and its rank is by what it outranks.
use Rattle.std.proofs.Common.{◌≡◌, ◌∙◌, refl, ap, sym, subst, ℕ, zero, suc, ◌<◌, inl, inr, List, [], ◌∷◌, length, get_or, arith}
use Rattle.std.proofs.lemmas.Bool.{cases_order}
use Rattle.classes.specs.Classes.{IsOneOf}
use Rattle.board_language.specs.Board.{Board}
use Rattle.fill_rules.specs.Tasks.{Task, no_task, ranked, task_at}
use Rattle.fill_rules.specs.Ranking.{IsTask, Outranks, IsSortedBy}
use Rattle.fill_rules.proofs.Ranking.{ranked_is}
use Rattle.dirty_rules.specs.Dirty.{IsRankOf}

one_of_at : {X : Type 0} (xs : List X) (i : ℕ) (d : X) → i < length xs → IsOneOf (get_or xs i d) xs
unfolding IsOneOf
one_of_at [] i d l = absurd (omega (arith, l))
one_of_at (x ∷ xs) zero d l = inl refl
one_of_at (x ∷ xs) (suc i) d l = inr (one_of_at xs i d (omega (arith, l)))

-- where one of a list stands in it
record StandsAt {X : Type 0} (xs : List X) (x d : X) : Type 0 where
  place : ℕ
  within : place < length xs
  is : get_or xs place d ≡ x

place_of : {X : Type 0} (xs : List X) (x d : X) → IsOneOf x xs → StandsAt xs x d
unfolding IsOneOf
place_of [] x d m = absurd m
place_of (y ∷ xs) x d (inl e) = record { place = 0; within = omega arith; is = sym e }
place_of (y ∷ xs) x d (inr m) = let p = place_of xs x d m in record { place = suc p.place; within = omega (arith, p.within); is = p.is }

sorted_at : {X : Type 0} (R : X → X → Type 0) (xs : List X) (i j : ℕ) (d : X) → IsSortedBy R xs → i < j → j < length xs → R (get_or xs i d) (get_or xs j d)
unfolding IsSortedBy
sorted_at R [] i j d s o l = absurd (omega (arith, l))
sorted_at R (x ∷ xs) i zero d s o l = absurd (omega (arith, o))
sorted_at R (x ∷ xs) zero (suc j) d s o l = s.0 (get_or xs j d) (one_of_at xs j d (omega (arith, l)))
sorted_at R (x ∷ xs) (suc i) (suc j) d s o l = sorted_at R xs i j d s.1 (omega (arith, o)) (omega (arith, l))

-- ---- ranks and outranking

pub outranks : (b : Board) (i j : ℕ) (s t : Task) → IsRankOf b i s → IsRankOf b j t → i < j → Outranks b s t
unfolding task_at
outranks b i j s t r q o =
    subst (λ x. Outranks b x t) r.is (subst (λ x. Outranks b (get_or (ranked b) i (no_task b)) x) q.is
    (sorted_at (Outranks b) (ranked b) i j (no_task b) (ranked_is b).sorted o q.within))

never_both : (b : Board) (s t : Task) → Outranks b s t → Outranks b t s → ⊥
never_both b s t h g = omega (arith, h, g)

never_self : (b : Board) (t : Task) → Outranks b t t → ⊥
never_self b t h = never_both b t t h h

pub one_rank : (b : Board) (i j : ℕ) (t : Task) → IsRankOf b i t → IsRankOf b j t → i ≡ j
one_rank b i j t r q = elim (cases_order i j) [
  | inl e ↦ e
  | inr (inl o) ↦ absurd (never_self b t (outranks b i j t t r q o))
  | inr (inr o) ↦ absurd (never_self b t (outranks b j i t t q r o))
]

pub is_above : (b : Board) (i j : ℕ) (s t : Task) → IsRankOf b i s → IsRankOf b j t → Outranks b s t → i < j
is_above b i j s t r q h = elim (cases_order i j) [
  | inl e ↦ absurd (never_self b s (subst (Outranks b s) (sym (same_task b i j s t e r q)) h))
  | inr (inl o) ↦ o
  | inr (inr o) ↦ absurd (never_both b s t h (outranks b j i t s q r o))
]
  where
    same_task : (b : Board) (i j : ℕ) (s t : Task) → i ≡ j → IsRankOf b i s → IsRankOf b j t → s ≡ t
    same_task b i j s t e r q = sym r.is ∙ ap (task_at b) e ∙ q.is

pub task_of : (b : Board) (i : ℕ) (t : Task) → IsRankOf b i t → IsTask b t
unfolding task_at
task_of b i t r = ((ranked_is b).members t).0 (subst (λ x. IsOneOf x (ranked b)) r.is (one_of_at (ranked b) i (no_task b) r.within))

pub rank_of : (b : Board) (t : Task) → IsTask b t → (i : ℕ) × IsRankOf b i t
unfolding task_at
rank_of b t h =
    let p = place_of (ranked b) t (no_task b) (((ranked_is b).members t).1 h) in
    (p.place, record { within = p.within; is = p.is })
