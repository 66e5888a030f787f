-- At most one thing is due, and so the answer of a quiet run is to it.
use Rattle.std.proofs.Common.{◌∙◌, sym, List}
use Rattle.desk.specs.Seen.{Seen}
use Rattle.desk.specs.declared.Counts.{Counts}
use Rattle.run_rules.specs.declared.ended.Ended.{Ended}
use Rattle.run_rules.specs.declared.words.Command.TheVariants as commands
use Rattle.run_rules.specs.Words.{GivenWord}
use Rattle.run_rules.specs.Due.{Due, IsDue}
use Rattle.run_rules.specs.Leaves.{Leaves, IsCaused, IsQuiet, IsAnswerTo}
use Rattle.run_rules.specs.Laws.{HasOneEach, HasOneDue}
use Rattle.run_rules.proofs.OneDue.{one_each, duties, quiet_no_fault}
use Rattle.top_call.specs.Today.{today}

-- each command owes one thing
one_each_today : HasOneEach today
one_each_today (commands.Fill input output threads rules) s due other f o = one_each (commands.Fill input output threads rules) s due other f o
one_each_today (commands.Refill input edits output threads rules) s due other f o = f ∙ sym o
one_each_today (commands.Report input rules) s due other f o = one_each (commands.Report input rules) s due other f o
one_each_today (commands.Generate seed size output) s due other f o = one_each (commands.Generate seed size output) s due other f o

pub one_due : HasOneDue today
one_due words s due other f o = (duties today one_each_today).0 words s due other f o

-- a quiet run answers what is due
pub answers_due : (answer : Ended) (words : List GivenWord) (before now : Counts) (s t : Seen) (due : Due)
    → Leaves today answer words s t → IsCaused answer before now → IsQuiet before now → IsDue today words s due → IsAnswerTo answer due
answers_due answer words before now s t due l c q h = (duties today one_each_today).1 answer words s t due l (quiet_no_fault answer before now c q) h
