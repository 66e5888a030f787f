-- From a board's fills and report to what is written and said of it.
use Rattle.std.proofs.Common.{sym, subst, ◌<◌, length, List, ℕ}
use Rattle.board_language.specs.declared.board.Rules.{Rules}
use Rattle.board_language.specs.Board.{Board}
use Rattle.edit_language.specs.Edited.{IsBoardOf}
use Rattle.output_rules.specs.Output.{text_with_rings}
use Rattle.output_rules.proofs.Placing.{some_bytes}
use Rattle.run_rules.specs.Filled.{Filled, IsFilled}
use Rattle.top_call.specs.declared.drawn.Outcome.{Outcome}
use Rattle.top_call.specs.declared.opened.Opened.{Opened}
use Rattle.top_call.specs.declared.opened.Purpose.{Purpose}
use Rattle.top_call.specs.declared.opened.Purpose.TheVariants.{Write, Tell, Sum}
use Rattle.top_call.specs.declared.passing.Passing.{Passing}
use Rattle.top_call.specs.Opened.{IsSound}
use Rattle.top_call.specs.Passed.{IsOutcome, IsPassingOf, HasSome, file_of, file_due}

-- the filled board
abbrev pub filled_of : (b : Board) (o : Outcome) → IsOutcome b o → Filled
filled_of b o h = record { board = b; fills = h.fills; traced = o.traced.items; report = h.is_report.said }

pub is_filled : (text : List ℕ) (rules : Rules) (b : Board) (o : Outcome) → IsBoardOf text rules b → (h : IsOutcome b o) → IsFilled text rules (filled_of b o h)
is_filled text rules b o is h = record { is_board = is; are_fills = h.are_fills; are_traced = h.are_traced; is_report = h.is_report.is }

-- a filled text is never empty
some_written : (opened : Opened) (o : Outcome) → IsSound opened → 0 < length (text_with_rings opened.text.items opened.board.board o.traced.items)
some_written opened o sound =
    subst (λ b. 0 < length (text_with_rings opened.text.items b o.traced.items)) (sym sound.board.board_is)
    (some_bytes opened.text.items sound.board.root sound.rules o.traced.items sound.board.is_root)

some_due : (purpose : Purpose) (opened : Opened) (o : Outcome) → IsSound opened → HasSome (file_due purpose opened o)
some_due (Write output) opened o sound = some_written opened o sound
some_due Tell opened o sound = tt
some_due (Sum output items) opened o sound = some_written opened o sound

pub some_passed : (opened : Opened) (o : Outcome) (p : Passing) → IsSound opened → IsPassingOf opened o p → HasSome (file_of p)
some_passed opened o p sound h = subst HasSome (sym h.file) (some_due opened.purpose opened o sound)
