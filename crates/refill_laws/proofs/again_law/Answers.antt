use Rattle.refill_laws.proofs.Again.{again_law, dirty_set, same_dirty}
use Rattle.refill_laws.proofs.again_law.Goals as goal

pub returns-clause-flags : goal.returns-clause-flags
returns-clause-flags c = again_law

pub returns-clause-edits : goal.returns-clause-edits
returns-clause-edits c = dirty_set

pub returns-clause-same : goal.returns-clause-same
returns-clause-same c = same_dirty
