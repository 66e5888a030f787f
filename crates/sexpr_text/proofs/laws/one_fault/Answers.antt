use Rattle.sexpr_text.proofs.FaultLaws.{same_fault, no_fault}
use Rattle.sexpr_text.proofs.laws.one_fault.Goals as goal

pub returns-clause-one : goal.returns-clause-one
returns-clause-one c = same_fault

pub returns-clause-none : goal.returns-clause-none
returns-clause-none c = no_fault
