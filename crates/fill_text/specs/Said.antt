-- What a report says, and with which bytes.
use Rattle.std.specs.Prelude.{◌≡◌, List}
use Rattle.board_language.specs.Board.{Board}
use Rattle.rings.specs.Rings.{Traced}
use Rattle.fill_rules.specs.Made.{Made}
use Rattle.output_rules.specs.Report as rules
use Rattle.output_rules.specs.Report.{report_text, unjoined}
use Rattle.output_rules.specs.Reported.{IsReport}
use Rattle.fill_text.specs.declared.report.Report.{Report}

-- its bytes are the text of what is to be reported of the board with these fills and their outlines, and it tells how many lines
-- the ratsnests of all nets have together
pub record IsReportOf (b : Board) (fills : List Made) (traced : List Traced) (r : Report) : Type 0 where
  pub said : rules.Report
  pub is : IsReport b fills traced said
  pub text : r.bytes.items ≡ report_text said
  pub count : r.unjoined ≡ unjoined said.nets
