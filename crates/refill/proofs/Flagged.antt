-- Flags of an edited board's tasks, one after another.
use Rattle.std.proofs.Common.{◌≡◌, ◌∙◌, refl, ap, sym, subst, ℕ, ◌<◌, ◌≤◌, ◌+◌, arith, inl, inr, Bool, true, false, List, [], ◌∷◌, ◌++◌, cond, length}
use Rattle.std.specs.Prelude.{◌↔◌, ◌⊎◌, replicate, IsTrue}
use Rattle.std.specs.List.{Contains}
use Rattle.std.proofs.lemmas.Bool.{cases_lt, cases_order, both_ways}
use Rattle.std.proofs.lemmas.List.{get_or-replicate, get_or_past, length-replicate}
use Rattle.std.proofs.lemmas.List.Elements.{Contains-append_left, Contains-push, Contains-push_cases}
use Rattle.board_language.specs.Board.{Board}
use Rattle.fill_rules.specs.Tasks as rules
use Rattle.fill_rules.specs.Tasks.{ranked, task_at}
use Rattle.fills.specs.declared.Task.{Task}
use Rattle.fills.specs.Fills.{task_of}
use Rattle.dirty_rules.specs.Dirty.{AreOldRanks}
use Rattle.dirty_rules.proofs.Ranks.{one_rank}
use Rattle.refill_laws.specs.Walked.{is_set}
use Rattle.refill.specs.Inner.Flags.{HasTask, WasFlagged, AreFlagged, IsKeptOn}

-- ---- no flag

pub none_set : (n k : ℕ) → is_set (replicate n false) k ≡ false
none_set n k = elim (cases_lt k n) [
  | inl l ↦ get_or-replicate n k false false l
  | inr l ↦ get_or_past (replicate n false) k false (subst (λ m. m ≤ k) (sym (length-replicate n false)) l)
]

-- ---- lists of tasks

own_of : rules.Task → Task
own_of r = record { zone = r.zone; layer = r.layer }

one_task : (t u : Task) → task_of t ≡ task_of u → t ≡ u
unfolding own_of
one_task t u e = ap own_of e

pub has_own : (tasks : List Task) (t : Task) → Contains tasks t ↔ HasTask tasks (task_of t)
has_own tasks t = (λ c. (t, refl, c), λ h. subst (Contains tasks) (one_task h.0 t h.1) h.2)

has_more : (tasks : List Task) (x : Task) (t : rules.Task) → HasTask (tasks ++ x ∷ []) t ↔ (HasTask tasks t ⊎ (task_of x ≡ t))
has_more tasks x t = (there, back)
  where
    there : HasTask (tasks ++ x ∷ []) t → HasTask tasks t ⊎ (task_of x ≡ t)
    there h = elim (Contains-push_cases tasks x h.0 h.2) [
      | inl c ↦ inl (h.0, h.1, c)
      | inr e ↦ inr (ap task_of e ∙ h.1)
    ]

    back : HasTask tasks t ⊎ (task_of x ≡ t) → HasTask (tasks ++ x ∷ []) t
    back (inl h) = (h.0, h.1, Contains-append_left tasks (x ∷ []) h.0 h.2)
    back (inr e) = (x, e, Contains-push tasks x)

has_none : (t : rules.Task) → HasTask [] t → ⊥
has_none t h = let l = h.2.1 in absurd (omega (arith, l))

-- ---- the tasks whose flags are set

-- the task has a rank below i, and its flag is set
abbrev WasFlaggedBelow : Board → List Bool → ℕ → rules.Task → Type 0
WasFlaggedBelow b flags i t = (j : ℕ) × (j < i) × (task_at b j ≡ t) × (is_set flags j ≡ true)

-- of the first i tasks these are those whose flags are set
pub record AreFlaggedBelow (b : Board) (flags : List Bool) (i : ℕ) (tasks : List Task) : Type 0 where
  pub each : (t : rules.Task) → HasTask tasks t ↔ WasFlaggedBelow b flags i t

pub none_flagged : (b : Board) (flags : List Bool) → AreFlaggedBelow b flags 0 []
none_flagged b flags = record { each = λ t. (λ h. absurd (has_none t h), λ w. let l = w.1 in absurd (omega (arith, l))) }

module _ (b : Board) (flags : List Bool) (i : ℕ) (tasks : List Task) (x : Task) (s : AreFlaggedBelow b flags i tasks) (e : task_of x ≡ task_at b i) where
  next_set : is_set flags i ≡ true → AreFlaggedBelow b flags (i + 1) (tasks ++ x ∷ [])
  next_set f = record { each = λ t. (λ h. there t ((has_more tasks x t).0 h), λ w. (has_more tasks x t).1 (back t w)) }
    where
      there : (t : rules.Task) → HasTask tasks t ⊎ (task_of x ≡ t) → WasFlaggedBelow b flags (i + 1) t
      there t (inl h) = let w = (s.each t).0 h in let l = w.1 in (w.0, omega (arith, l), w.2, w.3)
      there t (inr q) = (i, omega arith, sym e ∙ q, f)

      back : (t : rules.Task) → WasFlaggedBelow b flags (i + 1) t → HasTask tasks t ⊎ (task_of x ≡ t)
      back t w = elim (cases_order w.0 i) [
        | inl q ↦ inr (e ∙ ap (task_at b) (sym q) ∙ w.2)
        | inr (inl l) ↦ inl ((s.each t).1 (w.0, l, w.2, w.3))
        | inr (inr l) ↦ let m = w.1 in absurd (omega (arith, l, m))
      ]

  next_clear : is_set flags i ≡ false → AreFlaggedBelow b flags (i + 1) tasks
  next_clear f = record { each = λ t. (λ h. let w = (s.each t).0 h in let l = w.1 in (w.0, omega (arith, l), w.2, w.3), λ w. back t w) }
    where
      back : (t : rules.Task) → WasFlaggedBelow b flags (i + 1) t → HasTask tasks t
      back t w = elim (cases_order w.0 i) [
        | inl q ↦ absurd (both_ways (is_set flags i) f (ap (is_set flags) (sym q) ∙ w.3))
        | inr (inl l) ↦ (s.each t).1 (w.0, l, w.2, w.3)
        | inr (inr l) ↦ let m = w.1 in absurd (omega (arith, l, m))
      ]

  pub next_told : (f : Bool) → f ≡ is_set flags i → AreFlaggedBelow b flags (i + 1) (cond f (tasks ++ x ∷ []) tasks)
  next_told true q = next_set (sym q)
  next_told false q = next_clear (sym q)

pub next_put : (b : Board) (flags : List Bool) (i : ℕ) (tasks new : List Task) (x : Task) (f : Bool) → AreFlaggedBelow b flags i tasks → task_of x ≡ task_at b i
    → f ≡ is_set flags i → new ≡ cond f (tasks ++ x ∷ []) tasks → AreFlaggedBelow b flags (i + 1) new
next_put b flags i tasks new x f s e q n = subst (AreFlaggedBelow b flags (i + 1)) (sym n) (next_told b flags i tasks x s e f q)

pub all_flagged : (b : Board) (flags : List Bool) (i : ℕ) (tasks : List Task) → i ≡ length (ranked b) → AreFlaggedBelow b flags i tasks → AreFlagged b flags tasks
all_flagged b flags i tasks n s = record {
  each = λ t. (
    λ h. let w = (s.each t).0 h in (w.0, record { within = subst (λ m. w.0 < m) n w.1; is = w.2 }, w.3),
    λ w. (s.each t).1 (w.0, subst (λ m. w.0 < m) (sym n) w.1.within, w.1.is, w.2),
  );
}

-- ---- the tasks that stay flagged

pub kept_so : (b : Board) (tasks : List Task) (flags : List Bool) (k : ℕ) (t : Task) (was : Bool) → task_of t ≡ task_at b k
    → is_set flags k ≡ false → IsTrue was ↔ HasTask tasks (task_of t) → IsTrue was ↔ IsKeptOn b tasks flags k
kept_so b tasks flags k t was e f h = (λ w. inl (subst (HasTask tasks) e (h.0 w)), λ s. h.1 (subst (HasTask tasks) (sym e) (mine s)))
  where
    mine : IsKeptOn b tasks flags k → HasTask tasks (task_at b k)
    mine (inl m) = m
    mine (inr m) = absurd (both_ways (is_set flags k) f m)

-- ---- by old ranks

pub by_old_rank : (b d : Board) (old : ℕ → ℕ) (flags : List Bool) (k : ℕ) → AreOldRanks b d old → k < length (ranked d)
    → WasFlagged b flags (task_at d k) ↔ (is_set flags (old k) ≡ true)
by_old_rank b d old flags k r l = (
  λ w. subst (λ j. is_set flags j ≡ true) (one_rank b w.0 (old k) (task_at d k) w.1 (r k l)) w.2,
  λ e. (old k, r k l, e),
)
