-- Why the board of an edited text isn't made.
use Rattle.std.specs.Prelude.{ℕ, List}
use Rattle.sexpr_text.specs.Items.{Item}
use Rattle.sexpr_text.specs.Trees.{IsRoot}
use Rattle.board_language.specs.Reading.{IsOffence}
use Rattle.board_language.specs.declared.offence.Offence.{Offence}
use Rattle.edit_language.specs.declared.edit.EditRefusal.{EditRefusal}
use Rattle.edit_language.specs.declared.edit.EditRefusal.TheVariants.{NoStamp, WrongKind, StampTaken, Breaks}
use Rattle.board_edit.specs.declared.error.EditError.{EditError}
use Rattle.board_edit.specs.declared.error.EditError.TheVariants.{Memory, Bad}

-- the offence is the first one of the text's board
pub record OffendsIn (text : List ℕ) (offence : Offence) : Type 0 where
  pub root : Item
  pub is_root : IsRoot text root
  pub offends : IsOffence text root offence.at offence.line offence.kind

-- the board offends, and is refused for nothing else
abbrev pub IsBreak : List ℕ → EditRefusal → Type 0
IsBreak text (Breaks offence) = OffendsIn text offence
IsBreak text NoStamp = ⊥
IsBreak text WrongKind = ⊥
IsBreak text StampTaken = ⊥

-- want of memory, or the first offence
abbrev pub IsBoardRefusal : List ℕ → EditError → Type 0
IsBoardRefusal text Memory = Unit {0}
IsBoardRefusal text (Bad refusal) = IsBreak text refusal
