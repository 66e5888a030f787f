use Rattle.top_call.proofs.Ends.{same_end, same_workers}
use Rattle.top_call.proofs.runs.same_end_law.Goals as goal

pub returns-clause-words : goal.returns-clause-words
returns-clause-words c = same_end

pub returns-clause-workers : goal.returns-clause-workers
returns-clause-workers c = same_workers
