-- Flags of an edited board's tasks, by those of the board before.
use Rattle.std.specs.Prelude.{◌≡◌, ◌⊎◌, ◌↔◌, ℕ, Bool, true, List}
use Rattle.std.specs.List.{Contains}
use Rattle.board_language.specs.Board.{Board}
use Rattle.board_model.specs.Whole.{Whole}
use Rattle.fill_rules.specs.Tasks as rules
use Rattle.fill_rules.specs.Tasks.{task_at}
use Rattle.fills.specs.declared.Task.{Task}
use Rattle.fills.specs.Fills.{task_of}
use Rattle.board_edit.specs.Edited.{IsReadOf}
use Rattle.edit_language.specs.declared.edit.Edit.{Edit}
use Rattle.dirty_rules.specs.Dirty.{IsRankOf}
use Rattle.dirtied.specs.Dirtied.{AreTaskFlags, AreDirtied}
use Rattle.refill_laws.specs.Walked.{is_set}

-- the task is one of the list
abbrev pub HasTask : List Task → rules.Task → Type 0
HasTask tasks t = (own : Task) × (task_of own ≡ t) × Contains tasks own

-- the task is one of the board's, and its flag is set
abbrev pub WasFlagged : Board → List Bool → rules.Task → Type 0
WasFlagged b flags t = (j : ℕ) × IsRankOf b j t × (is_set flags j ≡ true)

-- these are the tasks of the board whose flags are set
pub record AreFlagged (b : Board) (flags : List Bool) (tasks : List Task) : Type 0 where
  pub each : (t : rules.Task) → HasTask tasks t ↔ WasFlagged b flags t

-- the task of rank k is one of the list, or its flag is set
abbrev pub IsKeptOn : Board → List Task → List Bool → ℕ → Type 0
IsKeptOn b tasks flags k = HasTask tasks (task_at b k) ⊎ (is_set flags k ≡ true)

-- both boards are read of some texts, under the same rules
pub record AreRead (old new : Whole) : Type 0 where
  pub text : List ℕ
  pub after : List ℕ
  pub before : IsReadOf text old
  pub now : IsReadOf after new
  pub rules : new.board.rules ≡ old.board.rules

-- Each task of the new board has a flag. It is set where the task was flagged on the old board, and where the edit dirties it
-- directly.
pub record AreNextOf (old new : Whole) (edit : Edit) (flags next : List Bool) : Type 0 where
  pub flagged : List Task
  pub direct : List Bool
  pub were : AreFlagged old.board flags flagged
  pub are : AreDirtied old new edit direct
  pub kept : AreTaskFlags new.board (IsKeptOn new.board flagged direct) next
