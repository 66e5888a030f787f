-- The error of a session that isn't opened, by the errors of its text and of its board.
use Rattle.std.specs.Prelude.{◌≡◌}
use Rattle.sexpr_text.specs.declared.error.TextError.{TextError}
use Rattle.sexpr_text.specs.declared.error.TextError.TheVariants as text_errors
use Rattle.board_model.specs.declared.error.BoardError.{BoardError}
use Rattle.board_model.specs.declared.error.BoardError.TheVariants as board_errors
use Rattle.refill.specs.declared.error.OpenError.{OpenError}
use Rattle.refill.specs.declared.error.OpenError.TheVariants.{Memory, Text, Board}

-- the error that a text's error makes
abbrev pub IsErrorOfText : TextError → OpenError → Type 0
IsErrorOfText text_errors.Memory error = error ≡ Memory
IsErrorOfText (text_errors.Bad fault) error = error ≡ Text fault

-- the error that a board's error makes
abbrev pub IsErrorOfBoard : BoardError → OpenError → Type 0
IsErrorOfBoard board_errors.Memory error = error ≡ Memory
IsErrorOfBoard (board_errors.Bad offence) error = error ≡ Board offence
