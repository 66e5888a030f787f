-- The laws of runs. That at most one thing is due of a program's own duties, where each of its commands owes one thing, stands in
-- `proofs/`: `one_due` and `answers_due` in `OneDue`.
use Rattle.std.specs.Prelude.{◌≡◌, ◌⊎◌, List}
use Rattle.desk.specs.declared.Counts.{Counts}
use Rattle.desk.specs.Seen.{Seen}
use Rattle.board_language.specs.Board.{Board}
use Rattle.board_language.specs.Clearances.{AreSoundRules}
use Rattle.fill_rules.specs.Made.{Made}
use Rattle.rings.specs.Rings.{Traced}
use Rattle.run_rules.specs.declared.words.Command.{Command}
use Rattle.run_rules.specs.declared.words.UsageFault.{UsageFault}
use Rattle.run_rules.specs.declared.ended.Ended.{Ended}
use Rattle.run_rules.specs.Words.{GivenWord, IsCommand, HasUsageFault, IsCommandInRange, default_rules}
use Rattle.fills.specs.Fills.{AreBoardFills}
use Rattle.output_rules.specs.Traced.{AreTracedOf}
use Rattle.run_rules.specs.Due.{Due, Duties, all_duties, IsDue}
use Rattle.run_rules.specs.Leaves.{IsCaused, Leaves, IsDeskFault, IsQuiet, IsAnswerTo}

-- a board has at most one list of fills
abbrev pub OneFillsLaw : Type 0
OneFillsLaw = (b : Board) (all others : List Made) → AreBoardFills b all → AreBoardFills b others → all ≡ others

-- and its fills at most one list of outlines
abbrev pub OneOutlinesLaw : Type 0
OneOutlinesLaw = (all : List Made) (traced others : List Traced) → AreTracedOf all traced → AreTracedOf all others → traced ≡ others

-- each command owes at most one thing
abbrev pub HasOneEach : Duties → Type 0
HasOneEach d = (command : Command) (s : Seen) (due other : Due) → d.Owes command s due → d.Owes command s other → due ≡ other

-- at most one thing is due
abbrev pub HasOneDue : Duties → Type 0
HasOneDue d = (words : List GivenWord) (s : Seen) (due other : Due) → IsDue d words s due → IsDue d words s other → due ≡ other

-- an answer that is no fault of the desk answers what is due, want of memory aside
abbrev pub AnswersDue : Duties → Type 0
AnswersDue d =
    (answer : Ended) (words : List GivenWord) (s t : Seen) (due : Due)
    → Leaves d answer words s t → (IsDeskFault answer → ⊥) → IsDue d words s due → IsAnswerTo answer due

-- of any duties: where each command owes at most one thing, at most one is due, and is answered where the desk has no fault
abbrev pub DutiesLaw : Type 1
DutiesLaw = (d : Duties) → HasOneEach d → HasOneDue d × AnswersDue d

-- at most one thing is due of the whole program
abbrev pub OneDueLaw : Type 0
OneDueLaw = HasOneDue all_duties

-- a quiet run answers what is due, want of memory aside
abbrev pub AnswersDueLaw : Type 0
AnswersDueLaw =
    (answer : Ended) (words : List GivenWord) (before now : Counts) (s t : Seen) (due : Due)
    → Leaves all_duties answer words s t → IsCaused answer before now → IsQuiet before now
    → IsDue all_duties words s due → IsAnswerTo answer due

-- Words are a command, or have a first fault: one of the two, and not both, nor two of the one.
pub record WantedLaw : Type 0 where
  pub some : (words : List GivenWord) → ((command : Command) × IsCommand words command) ⊎ ((fault : UsageFault) × HasUsageFault words fault)
  pub not_both : (words : List GivenWord) (command : Command) (fault : UsageFault) → IsCommand words command → HasUsageFault words fault → ⊥
  pub one_command : (words : List GivenWord) (command other : Command) → IsCommand words command → IsCommand words other → command ≡ other
  pub one_fault : (words : List GivenWord) (fault other : UsageFault) → HasUsageFault words fault → HasUsageFault words other → fault ≡ other

-- The numbers of a command are in their ranges, and so are those that hold where no option says otherwise.
pub record RangeLaw : Type 0 where
  pub command : (words : List GivenWord) (command : Command) → IsCommand words command → IsCommandInRange command
  pub usual : AreSoundRules default_rules
