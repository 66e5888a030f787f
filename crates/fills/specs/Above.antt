-- The fills that stand above a task when it is filled: those of exactly the tasks that reach it, in rank order.
use Rattle.std.specs.Prelude.{◌≡◌, ◌↔◌, ℕ, ◌+◌, ◌<◌, ◌≤◌, List, [], ◌∷◌, length}
use Rattle.classes.specs.Classes.{IsOneOf}
use Rattle.board_language.specs.Board.{Board}
use Rattle.fill_rules.specs.Tasks.{Task, ranked, task_at}
use Rattle.fill_rules.specs.Reach.{IsReaching}
use Rattle.fill_rules.specs.Made.{Made}
use Rattle.fills.specs.Fills.{IsFillOf}

-- in rank order, and none twice; the first is low or more
abbrev pub AreRanksAscending : ℕ → List ℕ → Type 0
AreRanksAscending low [] = Unit {0}
AreRanksAscending low (j ∷ js) = (low ≤ j) × AreRanksAscending (j + 1) js

-- they are the ranks of the tasks that reach the task, in rank order
pub record AreReaching (b : Board) (i : ℕ) (js : List ℕ) : Type 0 where
  pub order : AreRanksAscending 0 js
  pub same : (j : ℕ) → IsOneOf j js ↔ IsReaching b j i

-- one by one, the fills of these tasks
abbrev pub AreFillsOfTasks : Board → List ℕ → List Made → Type 0
AreFillsOfTasks b [] [] = Unit {0}
AreFillsOfTasks b [] (f ∷ fs) = ⊥
AreFillsOfTasks b (j ∷ js) [] = ⊥
AreFillsOfTasks b (j ∷ js) (f ∷ fs) = IsFillOf b j f × AreFillsOfTasks b js fs

-- they are the fills of exactly the tasks that reach the task, in rank order
pub record AreFillsAbove (b : Board) (i : ℕ) (fills : List Made) : Type 0 where
  pub tasks : List ℕ
  pub reaching : AreReaching b i tasks
  pub each : AreFillsOfTasks b tasks fills

-- the same of a task that is told without its rank: it is one of the board's
pub record AreFillsAboveTask (b : Board) (t : Task) (fills : List Made) : Type 0 where
  pub rank : ℕ
  pub within : rank < length (ranked b)
  pub task : task_at b rank ≡ t
  pub above : AreFillsAbove b rank fills
