-- The fill of a task that is told without its rank.
use Rattle.std.specs.Prelude.{◌≡◌, ℕ, ◌<◌, length}
use Rattle.board_language.specs.Board.{Board}
use Rattle.fill_rules.specs.Tasks.{Task, ranked, task_at}
use Rattle.fill_rules.specs.Made.{Made}
use Rattle.fills.specs.Fills.{IsFillOf}

-- the task is one of the board's, and this is its fill
pub record IsFillOfTask (b : Board) (t : Task) (f : Made) : Type 0 where
  pub rank : ℕ
  pub within : rank < length (ranked b)
  pub task : task_at b rank ≡ t
  pub fill : IsFillOf b rank f
