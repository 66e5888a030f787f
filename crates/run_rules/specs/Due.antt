-- What is due of a run, by its words and the files, in the order in which a run refuses: the words; the board's file, its text
-- and the board; the script's file, its lines and each edit in order; and then what is written and said.
use Rattle.std.specs.Prelude.{◌≡◌, ◌⊎◌, ◌↔◌, ◌≢◌, ℕ, ◌<◌, ◌≤◌, true, Bool, List, ◌++◌, length, map, sum, Option, None, Some}
use Rattle.classes.specs.Classes.{IsOneOf}
use Rattle.desk.specs.Seen.{Seen, content}
use Rattle.sexpr_text.specs.Items.{Item}
use Rattle.sexpr_text.specs.Trees.{IsRoot}
use Rattle.sexpr_text.specs.Faults.{IsFault}
use Rattle.sexpr_text.specs.declared.error.TextFault.{TextFault}
use Rattle.board_language.specs.declared.board.Rules.{Rules}
use Rattle.board_language.specs.Reading.{IsAccepted, IsOffence}
use Rattle.fill_rules.specs.Tasks.{ranked, task_at}
use Rattle.fill_rules.specs.Ranking.{IsSortedBy}
use Rattle.fill_rules.specs.Nodes.{made_of}
use Rattle.edit_language.specs.declared.edit.Edit.{Edit}
use Rattle.edit_language.specs.declared.edit.EditFault.{EditFault}
use Rattle.edit_language.specs.declared.edit.EditRefusal.{EditRefusal}
use Rattle.board_language.specs.declared.offence.Offence.{Offence}
use Rattle.edit_language.specs.Scripts.{AreEdits, IsFirstFault}
use Rattle.edit_language.specs.Edited.{IsEdited, IsRefusedEdit}
use Rattle.dirty_rules.specs.Dirty.{IsInDirtySet}
use Rattle.board_gen.specs.Generated.{generated}
use Rattle.rings.specs.Rings.{Traced}
use Rattle.output_rules.specs.Laws.{IsBelow}
use Rattle.output_rules.specs.Report.{refilled_text, summary_text, unjoined}
use Rattle.run_rules.specs.declared.words.Command.{Command}
use Rattle.run_rules.specs.declared.words.Command.TheVariants as commands
use Rattle.run_rules.specs.declared.ended.Ended.{Ended}
use Rattle.run_rules.specs.declared.ended.Ended.TheVariants.{Usage, TooLong, BadText, Refused, BadScript, EditRefused}
use Rattle.run_rules.specs.declared.ended.Role.{Role}
use Rattle.run_rules.specs.declared.ended.Role.TheVariants.{In, Edits}
use Rattle.run_rules.specs.Filled.{Filled, IsFilled, written, reported}
use Rattle.run_rules.specs.Words.{GivenWord, Wanted, wanted, default_rules}
use Rattle.run_rules.specs.Words.Wanted.{Wrong, Run}
use Rattle.run_rules.specs.Items.{items_in}

-- ---- what is due

-- a file and its bytes
pub record File : Type 0 where
  pub name : List ℕ
  pub bytes : List ℕ

-- a refusal by this answer; or the file, if the command has one, is written, these bytes are said, and so many lines are
-- wanted between clusters
pub data Due : Type 0 where
  Refuse : Ended → Due
  Pass : (file : Option File) (said : List ℕ) (lines : ℕ) → Due

-- the file of this name is written with these bytes, and this is said of the filled board
abbrev pub pass_with : List ℕ → List ℕ → List ℕ → Filled → Due
pass_with output bytes said f = Pass (Some (record { name = output; bytes = bytes })) said (unjoined f.report.nets)

-- ---- files and texts

-- A file owes that it is too long, or what its text owes.
abbrev pub OwesFile : Role → (List ℕ → Due → Type 0) → List ℕ → Due → Type 0
OwesFile role then text due =
    ((67108864 < length text) × (due ≡ Refuse (TooLong role 67108865))) ⊎ ((length text ≤ 67108864) × then text due)

-- A board owes its first offence, or what is done with an accepted one.
abbrev pub OwesRoot : (List ℕ → Due → Type 0) → List ℕ → Item → Due → Type 0
OwesRoot then text root due =
    ((offence : Offence) × IsOffence text root offence.at offence.line offence.kind × (due ≡ Refuse (Refused offence)))
    ⊎ (IsAccepted text root × then text due)

-- A text owes its fault, or what the board of its one list owes.
abbrev pub OwesBoard : (List ℕ → Due → Type 0) → List ℕ → Due → Type 0
OwesBoard then text due =
    ((fault : TextFault) × IsFault text fault.at fault.kind × (due ≡ Refuse (BadText fault)))
    ⊎ ((root : Item) × IsRoot text root × OwesRoot then text root due)

-- ---- `fill` and `report`

-- `fill` owes the filled board's text, and its report is said
abbrev pub OwesFill : Rules → List ℕ → List ℕ → Due → Type 0
OwesFill rules output text due = (f : Filled) × IsFilled text rules f × (due ≡ pass_with output (written text f) (reported f) f)

-- `report` owes no file, and the report is said
abbrev pub OwesReport : Rules → List ℕ → Due → Type 0
OwesReport rules text due = (f : Filled) × IsFilled text rules f × (due ≡ Pass None (reported f) (unjoined f.report.nets))

-- ---- `refill`

-- `changed` tells of each task of the last board whether its list of pieces is another than before
abbrev pub TellsChanged : Filled → Filled → (ℕ → Bool) → Type 0
TellsChanged old new changed =
    (k : ℕ) → (changed k ≡ true) ↔ ((made_of old.board old.fills (task_at new.board k)).pieces ≢ (made_of new.board new.fills (task_at new.board k)).pieces)

-- so many tasks are in the dirty set of the edits
pub record IsRefilled (text : List ℕ) (edits : List Edit) (rules : Rules) (new : Filled) (n : ℕ) : Type 0 where
  pub old : Filled
  pub old_is : IsFilled text rules old
  pub changed : ℕ → Bool
  pub tells : TellsChanged old new changed
  pub dirty : List ℕ
  pub sorted : IsSortedBy IsBelow dirty
  pub members : (k : ℕ) → IsOneOf k dirty ↔ ((k < length (ranked new.board)) × IsInDirtySet text edits rules new.board changed k)
  pub count : n ≡ length dirty

-- the edited board is filled, and so many tasks are filled again
abbrev pub OwesRefill : Rules → List ℕ → List ℕ → List Edit → Due → Type 0
OwesRefill rules output text edits due =
    (edited : List ℕ) × (f : Filled) × (n : ℕ) × IsEdited text edits edited × IsFilled edited rules f × IsRefilled text edits rules f n
    × (due ≡ pass_with output (written edited f) (refilled_text n ++ reported f) f)

-- the first edit that is refused, or the edited board filled
abbrev pub OwesEdits : Rules → List ℕ → List ℕ → List Edit → Due → Type 0
OwesEdits rules output text edits due =
    ((index : ℕ) × (refusal : EditRefusal) × IsRefusedEdit text edits index refusal × (due ≡ Refuse (EditRefused index refusal)))
    ⊎ OwesRefill rules output text edits due

-- the script's first fault, or what its edits owe
abbrev pub OwesScript : Rules → List ℕ → List ℕ → List ℕ → Due → Type 0
OwesScript rules output text script due =
    ((fault : EditFault) × IsFirstFault script fault.line fault.kind × (due ≡ Refuse (BadScript fault)))
    ⊎ ((edits : List Edit) × AreEdits script edits × OwesEdits rules output text edits due)

-- ---- `generate`

-- what is said of a board that is made of a seed
abbrev pub summary_of : ℕ → ℕ → Filled → List ℕ
summary_of seed size f =
    summary_text (items_in seed size) (sum (map (λ (t : Traced). length t.rings) f.traced)) (sum (map (λ (t : Traced). t.area2) f.traced)) (unjoined f.report.nets)

-- `generate` owes the filled text of the made board, and a summary of it is said
abbrev pub OwesGenerated : ℕ → ℕ → List ℕ → Due → Type 0
OwesGenerated seed size output due =
    (f : Filled) × IsFilled (generated seed size) default_rules f × (due ≡ pass_with output (written (generated seed size) f) (summary_of seed size f) f)

-- ---- a run

-- a command owes what becomes of the files that it names
abbrev pub OwesCommand : Command → Seen → Due → Type 0
OwesCommand (commands.Fill input output threads rules) s due = OwesFile In (OwesBoard (OwesFill rules output)) (content input s) due
OwesCommand (commands.Refill input edits output threads rules) s due =
    OwesFile In (OwesBoard (λ text due. OwesFile Edits (OwesScript rules output text) (content edits s) due)) (content input s) due
OwesCommand (commands.Report input rules) s due = OwesFile In (OwesBoard (OwesReport rules)) (content input s) due
OwesCommand (commands.Generate seed size output) s due = OwesGenerated seed size output due

-- What a program takes upon itself: what it takes its words to want, and what each command owes. A program that has not all
-- commands yet has duties of its own; all that follows speaks of any duties.
pub record Duties : Type 1 where
  pub asked : List GivenWord → Wanted
  pub Owes : Command → Seen → Due → Type 0

-- those of the whole program
abbrev pub all_duties : Duties
all_duties = record { asked = wanted; Owes = OwesCommand }

-- words owe their fault, or what their command owes
abbrev pub OwesWords : (Command → Seen → Due → Type 0) → Wanted → Seen → Due → Type 0
OwesWords owes (Wrong fault) s due = due ≡ Refuse (Usage fault)
OwesWords owes (Run command) s due = owes command s due

-- This is due of a run with these words, over a desk that tells s.
unfoldable pub IsDue : Duties → List GivenWord → Seen → Due → Type 0
IsDue d words s due = OwesWords d.Owes (d.asked words) s due
