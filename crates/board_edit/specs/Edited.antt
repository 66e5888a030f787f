-- When a board is that of a text, and why an edit isn't made.
use Rattle.std.specs.Prelude.{◌≡◌, ℕ, List}
use Rattle.sexpr_text.specs.Items.{Item}
use Rattle.sexpr_text.specs.Trees.{IsRoot}
use Rattle.board_language.specs.declared.board.Rules.{Rules}
use Rattle.board_language.specs.Reading.{IsAccepted}
use Rattle.board_model.specs.Whole.{Whole, whole_board}
use Rattle.edit_language.specs.declared.edit.Edit.{Edit}
use Rattle.edit_language.specs.Edited.{IsEditRefused}
use Rattle.board_edit.specs.declared.error.EditError.{EditError}
use Rattle.board_edit.specs.declared.error.EditError.TheVariants.{Memory, Bad}

-- the board is the one of the text, in which nothing offends, under some rules, with its version and its stamps
pub record IsReadOf (text : List ℕ) (b : Whole) : Type 0 where
  pub root : Item
  pub rules : Rules
  pub is_root : IsRoot text root
  pub accepted : IsAccepted text root
  pub board_is : b ≡ whole_board text root rules

-- want of memory, or why the edit of this text is refused
abbrev pub IsEditRefusal : List ℕ → Edit → EditError → Type 0
IsEditRefusal text edit Memory = Unit {0}
IsEditRefusal text edit (Bad refusal) = IsEditRefused text edit refusal
