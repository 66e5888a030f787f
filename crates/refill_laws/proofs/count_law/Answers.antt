use Rattle.refill_laws.proofs.Counts.{count_law, dirty_count, one_count, broken_walk}
use Rattle.refill_laws.proofs.count_law.Goals as goal

pub returns-clause-count : goal.returns-clause-count
returns-clause-count c = count_law

pub returns-clause-edits : goal.returns-clause-edits
returns-clause-edits c = dirty_count

pub returns-clause-one : goal.returns-clause-one
returns-clause-one c = one_count

pub returns-clause-broken : goal.returns-clause-broken
returns-clause-broken c = broken_walk
