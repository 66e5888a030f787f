-- For each task of a board, which others reach it.
use Rattle.std.specs.Prelude.{◌≡◌, ◌↔◌, ℕ, ◌<◌, List, [], ◌++◌, length, get_or}
use Rattle.classes.specs.Classes.{IsOneOf}
use Rattle.board_language.specs.Board.{Board}
use Rattle.fill_rules.specs.Tasks.{Task}
use Rattle.fill_rules.specs.Reach.{IsReaching}
use Rattle.fills.specs.Above.{AreRanksAscending, AreReaching}
use Rattle.fill_pool.specs.Runs.{count_of}

-- there are n lists, and P holds of each by its place
pub record AreLists (P : ℕ → List ℕ → Type 0) (n : ℕ) (lists : List (List ℕ)) : Type 0 where
  pub rows : length lists ≡ n
  pub each : (i : ℕ) → i < n → P i (get_or lists i [])

-- for each task of the board, the ranks of the tasks that reach it
abbrev pub IsTableOf : Board → List (List ℕ) → Type 0
IsTableOf b table = AreLists (AreReaching b) (count_of b) table

-- of the first n tasks, the places of those on the layer, upward
pub record ArePlacesOn (tasks : List Task) (layer n : ℕ) (places : List ℕ) : Type 0 where
  pub order : AreRanksAscending 0 places
  pub same : (j : ℕ) (d : Task) → IsOneOf j places ↔ ((j < n) × ((get_or tasks j d).layer ≡ layer))

-- for each layer below n, the places of the tasks on it
abbrev pub AreByLayer : List Task → ℕ → List (List ℕ) → Type 0
AreByLayer tasks n lists = AreLists (λ layer places. ArePlacesOn tasks layer (length tasks) places) n lists

-- of these ranks some were looked at, and of those the ones that reach the task were chosen; the rest comes yet
pub record AreChosen (b : Board) (i : ℕ) (ranks chosen rest : List ℕ) : Type 0 where
  pub order : AreRanksAscending 0 (chosen ++ rest)
  pub reach : (j : ℕ) → IsOneOf j chosen → IsReaching b j i
  pub all : (j : ℕ) → IsReaching b j i → IsOneOf j ranks → IsOneOf j (chosen ++ rest)
