-- Words are a command or have a first fault, and just one of the two.
use Rattle.std.proofs.Common.{◌≡◌, ◌∙◌, sym, ap, subst, ◌⊎◌, inl, inr, refl}
use Rattle.run_rules.specs.declared.words.Command.{Command}
use Rattle.run_rules.specs.declared.words.UsageFault.{UsageFault}
use Rattle.run_rules.specs.Words.{Wanted, wanted}
use Rattle.run_rules.specs.Words.Wanted.{Wrong, Run}
use Rattle.run_rules.specs.Laws.{WantedLaw}

IsRun : Wanted → Type 0
IsRun (Wrong fault) = ⊥
IsRun (Run command) = Unit {0}

command_or : Command → Wanted → Command
command_or other (Wrong fault) = other
command_or other (Run command) = command

fault_or : UsageFault → Wanted → UsageFault
fault_or other (Wrong fault) = fault
fault_or other (Run command) = other

pick : (w : Wanted) → ((command : Command) × (w ≡ Run command)) ⊎ ((fault : UsageFault) × (w ≡ Wrong fault))
pick (Wrong fault) = inr (fault, refl)
pick (Run command) = inl (command, refl)

apart : (command : Command) (fault : UsageFault) → Run command ≡ Wrong fault → ⊥
unfolding IsRun
apart command fault e = subst IsRun e tt

same_command : (command other : Command) → Run command ≡ Run other → command ≡ other
unfolding command_or
same_command command other e = ap (command_or other) e

same_fault : (fault other : UsageFault) → Wrong fault ≡ Wrong other → fault ≡ other
unfolding fault_or
same_fault fault other e = ap (fault_or other) e

pub wanted_law : WantedLaw
wanted_law = record {
  some = λ words. pick (wanted words);
  not_both = λ words command fault h g. apart command fault (sym h ∙ g);
  one_command = λ words command other h g. same_command command other (sym h ∙ g);
  one_fault = λ words fault other h g. same_fault fault other (sym h ∙ g);
}
