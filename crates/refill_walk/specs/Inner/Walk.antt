-- A walk over the tasks of an edited board, as the code keeps it.
use Rattle.std.specs.Prelude.{◌≡◌, ◌⊎◌, ℕ, ◌+◌, ◌≤◌, Bool, true, List, length, map}
use Rattle.std.specs.Arc.{arc_value}
use Rattle.board_language.specs.Board.{Board}
use Rattle.fill_rules.specs.Made.{Made}
use Rattle.fill_rules.specs.Reach.{IsReaching}
use Rattle.refill_laws.specs.OneEdit.{old_rank}
use Rattle.refill_laws.specs.Walked.{is_set, count_set, IsWalkedTo}
use Rattle.refill_walk.specs.declared.edited.Edited.{Edited}
use Rattle.refill_walk.specs.declared.edited.Walk.{Walk}

-- Of the first tasks of the board d these are the fills; `changed` marks those whose fill has other pieces than on the board b.
-- So many were filled again; which ones, proofs alone tell.
pub record IsCountedWalk (b d : Board) (olds : List Made) (flagged : ℕ → Bool) (fills : List Made) (changed : List Bool) (count : ℕ) : Type 0 where
  pub again : List Bool
  pub walked : IsWalkedTo d (old_rank b d) olds flagged fills again changed
  pub as_many : count ≡ count_set again

-- the walk is one over the edited board
abbrev pub IsWalkOf : Edited → Walk → Type 0
IsWalkOf e w =
    IsCountedWalk e.filled.now.board e.board.now.board (map arc_value e.olds.now) (is_set e.flags.now) (map arc_value w.fills.items)
    w.changed.items w.count

-- a task whose fill changed reaches the task of rank k
abbrev pub IsReachedByChanged : Board → List Bool → ℕ → Type 0
IsReachedByChanged d changed k = (m : ℕ) × IsReaching d m k × (is_set changed m ≡ true)

-- the task of rank k is filled again: it is flagged, or a changed fill reaches it
abbrev pub IsFilledAgain : Board → (ℕ → Bool) → List Bool → ℕ → Type 0
IsFilledAgain d flagged changed k = (flagged k ≡ true) ⊎ IsReachedByChanged d changed k

-- the task that is next in the walk is
abbrev pub IsNextAgain : Edited → Walk → Type 0
IsNextAgain e w = IsFilledAgain e.board.now.board (is_set e.flags.now) w.changed.items (length w.fills.items)

-- no step was taken, or at most one, for a task that is filled again
abbrev pub AreStepsOfNext : Edited → Walk → (before now : ℕ) → Type 0
AreStepsOfNext e w before now = (now ≡ before) ⊎ (IsNextAgain e w × (before ≤ now) × (now ≤ before + 1))
