-- Flags by rank: which tasks of a board an edit dirties directly.
use Rattle.std.specs.Prelude.{◌≡◌, ◌↔◌, ℕ, ◌<◌, Bool, true, false, List, length, get_or}
use Rattle.board_language.specs.declared.board.Rules.{Rules}
use Rattle.board_language.specs.Board.{Board}
use Rattle.fill_rules.specs.Tasks.{ranked}
use Rattle.board_model.specs.Whole.{Whole}
use Rattle.board_edit.specs.Edited.{IsReadOf}
use Rattle.edit_language.specs.declared.edit.Edit.{Edit}
use Rattle.dirty_rules.specs.Dirty.{IsDirtying}

-- each task of the board has a flag at its rank, which is set exactly where this holds of the rank
pub record AreTaskFlags (b : Board) (P : ℕ → Type 0) (flags : List Bool) : Type 0 where
  pub all : length flags ≡ length (ranked b)
  pub each : (k : ℕ) → k < length (ranked b) → (get_or flags k false ≡ true) ↔ P k

-- Of whatever texts the two boards are read, under the same rules, the flags of the new board's tasks tell which of them the
-- edit, which makes the new text of the old one, dirties directly.
abbrev pub AreDirtied : Whole → Whole → Edit → List Bool → Type 0
AreDirtied old new edit flags =
    (text after : List ℕ) (rules : Rules) → IsReadOf text old → IsReadOf after new → old.board.rules ≡ rules → new.board.rules ≡ rules
    → AreTaskFlags new.board (IsDirtying text after rules old.board new.board edit) flags
