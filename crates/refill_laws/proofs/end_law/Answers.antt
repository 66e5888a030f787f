use Rattle.refill_laws.proofs.Ends.{end_changed, end_dirty}
use Rattle.refill_laws.proofs.Steps.{end_tells, some_ranks, end_count, early_count}
use Rattle.refill_laws.proofs.end_law.Goals as goal

pub returns-clause-tells : goal.returns-clause-tells
returns-clause-tells c = end_tells

pub returns-clause-some : goal.returns-clause-some
returns-clause-some c = some_ranks

pub returns-clause-count : goal.returns-clause-count
returns-clause-count c = end_count

pub returns-clause-early : goal.returns-clause-early
returns-clause-early c = early_count

pub returns-clause-changed : goal.returns-clause-changed
returns-clause-changed c = end_changed

pub returns-clause-dirty : goal.returns-clause-dirty
returns-clause-dirty c = end_dirty
