-- A task has one rank, so what holds of it holds of its rank.
use Rattle.std.proofs.Common.{◌≡◌, refl, sym, subst, inl, inr, ℕ, zero, suc, ◌<◌, arith, List, [], ◌∷◌, length, get_or}
use Rattle.std.proofs.lemmas.Bool.{cases_lt}
use Rattle.board_language.specs.Board.{Board}
use Rattle.fill_rules.specs.Tasks.{Task, ranked, task_at, no_task}
use Rattle.fill_rules.specs.Ranking.{Outranks, IsSortedBy}
use Rattle.fill_rules.specs.Laws.{RankingLaw}
use Rattle.fills.specs.Fills.{IsFillOf}
use Rattle.fill_pool.specs.Runs.{count_of}
use Rattle.fill_pool.specs.Laws.{TicketFillLaw}
use Rattle.fill_pool.proofs.Boards.{one_of_get}

sorted_at : {A : Type 0} (R : A → A → Type 0) (xs : List A) (i j : ℕ) (d : A) → IsSortedBy R xs → i < j → j < length xs → R (get_or xs i d) (get_or xs j d)
unfolding IsSortedBy
sorted_at R [] i j d h l m = absurd (omega (arith, m))
sorted_at R (x ∷ xs) zero zero d h l m = absurd (omega (arith, l))
sorted_at R (x ∷ xs) zero (suc j) d h l m = h.0 (get_or xs j d) (one_of_get xs j d (omega (arith, m)))
sorted_at R (x ∷ xs) (suc i) zero d h l m = absurd (omega (arith, l))
sorted_at R (x ∷ xs) (suc i) (suc j) d h l m = sorted_at R xs i j d h.1 (omega (arith, l)) (omega (arith, m))

not_self : (b : Board) (t : Task) → Outranks b t t → ⊥
not_self b t h = omega (arith, h)

ranks_above : RankingLaw → (b : Board) (i j : ℕ) → i < j → j < count_of b → Outranks b (task_at b i) (task_at b j)
unfolding task_at
ranks_above law b i j l m = sorted_at (Outranks b) (ranked b) i j (no_task b) (law b).sorted l m

one_rank : RankingLaw → (b : Board) (i j : ℕ) → i < count_of b → j < count_of b → task_at b i ≡ task_at b j → i ≡ j
one_rank law b i j li lj e =
    elim (cases_lt i j) [
      | inl l ↦ absurd (not_self b (task_at b j) (subst (λ (t : Task). Outranks b t (task_at b j)) e (ranks_above law b i j l lj)))
      | inr g ↦ elim (cases_lt j i) [
        | inl l ↦ absurd (not_self b (task_at b i) (subst (λ (t : Task). Outranks b t (task_at b i)) (sym e) (ranks_above law b j i l li)))
        | inr h ↦ omega (arith, g, h)
      ]
    ]

pub ticket_fill : RankingLaw → TicketFillLaw
ticket_fill law = record {
  above = λ b i fs l h. record { rank = i; within = l; task = refl; above = h };
  fill = λ b i f l h. subst (λ (k : ℕ). IsFillOf b k f) (one_rank law b h.rank i h.within l h.task) h.fill;
}
