-- A filled board: the fills of all its tasks, their outlines, and what is reported of it.
use Rattle.std.specs.Prelude.{ℕ, List}
use Rattle.rings.specs.Rings.{Traced}
use Rattle.board_language.specs.declared.board.Rules.{Rules}
use Rattle.board_language.specs.Board.{Board}
use Rattle.fills.specs.Fills.{AreBoardFills}
use Rattle.fill_rules.specs.Made.{Made}
use Rattle.edit_language.specs.Edited.{IsBoardOf}
use Rattle.output_rules.specs.Output.{text_with_rings}
use Rattle.output_rules.specs.Traced.{AreTracedOf}
use Rattle.output_rules.specs.Report.{Report, report_text}
use Rattle.output_rules.specs.Reported.{IsReport}

-- a board with its fills, their outlines, and what is reported of it
pub record Filled : Type 0 where
  pub board : Board
  pub fills : List Made
  pub traced : List Traced
  pub report : Report

-- the text is that of an accepted board, which is filled so
pub record IsFilled (text : List ℕ) (rules : Rules) (f : Filled) : Type 0 where
  pub is_board : IsBoardOf text rules f.board
  pub are_fills : AreBoardFills f.board f.fills
  pub are_traced : AreTracedOf f.fills f.traced
  pub is_report : IsReport f.board f.fills f.traced f.report

-- the board's text with these fills in it
abbrev pub written : List ℕ → Filled → List ℕ
written text f = text_with_rings text f.board f.traced

-- the lines that are said of it
abbrev pub reported : Filled → List ℕ
reported f = report_text f.report
