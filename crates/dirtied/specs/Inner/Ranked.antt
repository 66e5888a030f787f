-- The tasks of a board in rank order.
use Rattle.std.specs.Prelude.{◌≡◌, List, map}
use Rattle.std.specs.List.{All}
use Rattle.board_language.specs.Board.{Board}
use Rattle.fill_rules.specs.Tasks.{ranked}
use Rattle.fill_rules.specs.Ranking.{IsTask}
use Rattle.fills.specs.declared.Task.{Task}
use Rattle.fills.specs.Fills.{task_of}

-- these are the board's tasks, in rank order
pub record AreTasks (b : Board) (tasks : List Task) : Type 0 where
  pub order : map task_of tasks ≡ ranked b
  pub each : All (λ t. IsTask b (task_of t)) tasks
