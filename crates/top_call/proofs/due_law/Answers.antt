use Rattle.top_call.proofs.OneDue.{one_due}
use Rattle.top_call.proofs.due_law.Goals as goal

pub returns : goal.returns
returns c = one_due
