use Rattle.refill_laws.proofs.Walks.{keep_law, next_fill, all_fills, walk_law}
use Rattle.refill_laws.proofs.walk_law.Goals as goal

pub returns-clause-keep : goal.returns-clause-keep
returns-clause-keep c = keep_law

pub returns-clause-next : goal.returns-clause-next
returns-clause-next c = next_fill

pub returns-clause-all : goal.returns-clause-all
returns-clause-all c = all_fills

pub returns-clause-walk : goal.returns-clause-walk
returns-clause-walk c = walk_law
