use Rattle.run_rules.proofs.OneDue.{one_due, answers_due}
use Rattle.run_rules.proofs.due_law.Goals as goal

pub returns : goal.returns
returns c = record { one = one_due; answers = answers_due }
