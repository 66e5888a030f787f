-- Which of the fills so far are above a task.
use Rattle.std.specs.Prelude.{◌↔◌, ℕ, ◌<◌, List}
use Rattle.classes.specs.Classes.{IsOneOf}
use Rattle.board_language.specs.Board.{Board}
use Rattle.fill_rules.specs.Reach.{IsReaching}
use Rattle.fill_rules.specs.Made.{Made}
use Rattle.fills.specs.Above.{AreRanksAscending, AreFillsOfTasks}

-- they are the fills of those of the first n tasks that reach the task of rank i, in rank order
pub record AreAboveFirst (b : Board) (n i : ℕ) (above : List Made) : Type 0 where
  pub ranks : List ℕ
  pub order : AreRanksAscending 0 ranks
  pub same : (j : ℕ) → IsOneOf j ranks ↔ ((j < n) × IsReaching b j i)
  pub each : AreFillsOfTasks b ranks above
