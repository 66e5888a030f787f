-- The law of boards that are read.
use Rattle.std.specs.Prelude.{ℕ, List}
use Rattle.board_model.specs.Whole.{Whole}
use Rattle.edit_language.specs.Edited.{IsBoardOf}
use Rattle.board_edit.specs.Edited.{IsReadOf}

-- without its version and stamps, a board that is read is the one of its text under its rules
abbrev pub BoardLaw : Type 0
BoardLaw = (text : List ℕ) (b : Whole) → IsReadOf text b → IsBoardOf text b.board.rules b.board
