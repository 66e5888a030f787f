-- What a text is, in the words of the board's language.
use Rattle.std.specs.Prelude.{◌≡◌, ℕ, List}
use Rattle.sexpr_text.specs.Items.{Item}
use Rattle.sexpr_text.specs.Trees.{IsRoot}
use Rattle.sexpr_text.specs.Faults.{IsFault}
use Rattle.board_language.specs.Reading.{IsAccepted, IsOffence}
use Rattle.board_language.specs.declared.board.Rules.{Rules}
use Rattle.board_model.specs.Whole.{whole_board}
use Rattle.board_table.specs.declared.verdict.Verdict.{Verdict}
use Rattle.board_table.specs.declared.verdict.Verdict.TheVariants.{NoText, Refused, Read}

-- a clearance of 0.2 mm everywhere, and one of 0.5 mm to the board's edge
abbrev pub rules : Rules
rules = record { floor = 200000; edge = 500000 }

-- a fault is the text's, an offence the first one of its board, and a board the one that the text spells
abbrev pub IsVerdict : List ℕ → Verdict → Type 0
IsVerdict text (NoText fault) = IsFault text fault.at fault.kind
IsVerdict text (Refused offence) = (root : Item) × IsRoot text root × IsOffence text root offence.at offence.line offence.kind
IsVerdict text (Read board) = (root : Item) × IsRoot text root × IsAccepted text root × (board ≡ whole_board text root rules)
