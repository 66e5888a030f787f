-- What is passed on of a command that isn't refused: a file, if it has one, and what is said.
use Rattle.std.specs.Prelude.{◌≡◌, ℕ, ◌<◌, ◌+◌, List, map, sum, length, take, Option, None, Some}
use Rattle.std.specs.Option.{option_map}
use Rattle.desk.specs.Seen.{Seen, with_said}
use Rattle.desk.specs.declared.Counts.{Counts}
use Rattle.desk.specs.Faults.{Rose}
use Rattle.board_language.specs.Board.{Board}
use Rattle.fill_rules.specs.Made.{Made}
use Rattle.fills.specs.Fills.{AreBoardFills}
use Rattle.rings.specs.Rings.{Traced}
use Rattle.output_rules.specs.Traced.{AreTracedOf}
use Rattle.output_rules.specs.Output.{text_with_rings}
use Rattle.output_rules.specs.Report.{summary_text}
use Rattle.outlines.specs.Drawn.{AreRingsInRange}
use Rattle.fill_text.specs.Said.{IsReportOf}
use Rattle.run_rules.specs.declared.ended.Ended.{Ended}
use Rattle.run_rules.specs.declared.ended.Ended.TheVariants.{Done, Unwritten, Unsaid, Memory}
use Rattle.run_rules.specs.Due.{File, Due}
use Rattle.run_rules.specs.Due.Due.{Pass}
use Rattle.run_rules.specs.Leaves.{IsCutShort, with_output, file_size}
use Rattle.top_call.specs.declared.drawn.Outcome.{Outcome}
use Rattle.top_call.specs.declared.finished.Totals.{Totals}
use Rattle.top_call.specs.declared.opened.Opened.{Opened}
use Rattle.top_call.specs.declared.opened.Purpose.{Purpose}
use Rattle.top_call.specs.declared.opened.Purpose.TheVariants.{Write, Tell, Sum}
use Rattle.top_call.specs.declared.passing.OutFile.{OutFile}
use Rattle.top_call.specs.declared.passing.Passing.{Passing}

-- ---- filled boards

-- the outlines and the report of the board's fills
pub record IsOutcome (b : Board) (o : Outcome) : Type 0 where
  pub fills : List Made
  pub are_fills : AreBoardFills b fills
  pub are_traced : AreTracedOf fills o.traced.items
  pub in_range : AreRingsInRange o.traced.items
  pub is_report : IsReportOf b fills o.traced.items o.report

-- how many rings there are, and twice the area of all of them
pub record AreTotals (traced : List Traced) (t : Totals) : Type 0 where
  pub polygons : t.polygons ≡ sum (map (λ (o : Traced). length o.rings) traced)
  pub area2 : t.area2 ≡ sum (map (λ (o : Traced). o.area2) traced)

-- the line that is said of a board with so many items
pub record IsSummary (items : ℕ) (o : Outcome) (said : List ℕ) : Type 0 where
  pub totals : Totals
  pub are : AreTotals o.traced.items totals
  pub line : said ≡ summary_text items totals.polygons totals.area2 o.report.unjoined

-- ---- what is passed on

-- a file as its name and its bytes
abbrev pub file_shown : OutFile → File
file_shown f = record { name = f.name; bytes = f.bytes.items }

-- the file that is passed on, if there is one
abbrev pub file_of : Passing → Option File
file_of p = option_map file_shown p.file

-- the board's text with its new outlines, as the file of this name
abbrev pub file_with : List ℕ → Opened → Outcome → File
file_with name opened o = record { name = name; bytes = text_with_rings opened.text.items opened.board.board o.traced.items }

-- the file that is written for this purpose, if there is one
abbrev pub file_due : Purpose → Opened → Outcome → Option File
file_due (Write output) opened o = Some (file_with output opened o)
file_due Tell opened o = None
file_due (Sum output items) opened o = Some (file_with output opened o)

-- what is said for this purpose: the report, or the summary of a made board
abbrev pub IsSaidFor : Purpose → Outcome → List ℕ → Type 0
IsSaidFor (Write output) o said = said ≡ o.report.bytes.items
IsSaidFor Tell o said = said ≡ o.report.bytes.items
IsSaidFor (Sum output items) o said = IsSummary items o said

-- what is passed on of a board that is opened and drawn
pub record IsPassingOf (opened : Opened) (o : Outcome) (p : Passing) : Type 0 where
  pub file : file_of p ≡ file_due opened.purpose opened o
  pub said : IsSaidFor opened.purpose o p.said.items
  pub lines : p.unjoined ≡ o.report.unjoined

-- it is all that is due
abbrev pub due_of : Passing → Due
due_of p = Pass (file_of p) p.said.items p.unjoined

-- a file that is passed on isn't empty
abbrev pub HasSome : Option File → Type 0
HasSome None = Unit {0}
HasSome (Some file) = 0 < length file.bytes

-- so many bytes of room it takes
abbrev pub wanted_room : Passing → ℕ
wanted_room p = file_size (file_of p) + length p.said.items

-- The file is written and all is said; or the file is cut; or it is whole, and what is said is cut. There is no other answer.
abbrev pub Passes : Ended → Option File → List ℕ → ℕ → Seen → Seen → Type 0
Passes (Done lines) file said wanted s t = (lines ≡ wanted) × (t ≡ with_said said (with_output file s))
Passes (Unwritten given) file said wanted s t = (cut : File) × (file ≡ Some cut) × IsCutShort cut given s t
Passes (Unsaid given) file said wanted s t = (given < length said) × (t ≡ with_said (take given said) (with_output file s))
Passes other file said wanted s t = ⊥

-- where the file or what is said is cut, the count of writing or of saying rose; there is no other answer but that all is done
abbrev pub IsPassedBy : Ended → (before now : Counts) → Type 0
IsPassedBy (Done lines) before now = Unit {0}
IsPassedBy (Unwritten given) before now = Rose before.writing now.writing
IsPassedBy (Unsaid given) before now = Rose before.saying now.saying
IsPassedBy other before now = ⊥

-- the same, or memory was wanted before
abbrev pub IsPassedOrMemory : Ended → (before now : Counts) → Type 0
IsPassedOrMemory Memory before now = Unit {0}
IsPassedOrMemory answer before now = IsPassedBy answer before now
