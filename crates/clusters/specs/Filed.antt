-- The tasks of a board in the order of the file, told by their ranks.
use Rattle.std.specs.Prelude.{◌≡◌, ℕ, ◌<◌, List, length, map, get_or}
use Rattle.std.specs.List.{All}
use Rattle.board_language.specs.Board.{Board}
use Rattle.fill_rules.specs.Tasks.{Task, no_zone, layers_below, ranked, tasks_from, task_at}

-- all are ranks of tasks
abbrev pub AreRanks : Board → List ℕ → Type 0
AreRanks b ranks = All (λ (r : ℕ). r < length (ranked b)) ranks

-- the tasks of one zone, by layer
abbrev pub tasks_of : Board → ℕ → List Task
tasks_of b z = map (λ (l : ℕ). record { zone = z; layer = l }) (layers_below (get_or b.zones z no_zone).layers (length b.layers))

-- they are the ranks of all tasks, by the file order of their zones and by layer
pub record AreFiled (b : Board) (ranks : List ℕ) : Type 0 where
  pub order : map (task_at b) ranks ≡ tasks_from (length b.layers) 0 b.zones
  pub each : AreRanks b ranks
