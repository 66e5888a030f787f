use Rattle.components.proofs.Size.{size, count}
use Rattle.components.proofs.size_law.Goals as goal

pub returns-clause-points : goal.returns-clause-points
returns-clause-points c = size

pub returns-clause-count : goal.returns-clause-count
returns-clause-count c = count
