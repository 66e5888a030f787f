use Rattle.grid_sets.proofs.Counting.{count_law}
use Rattle.grid_sets.proofs.count_law.Goals as goal

pub returns : goal.returns
returns c = count_law
