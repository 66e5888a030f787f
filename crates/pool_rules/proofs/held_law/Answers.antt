use Rattle.pool_rules.proofs.Runs.{held_done}
use Rattle.pool_rules.proofs.held_law.Goals as goal

pub returns : goal.returns
returns c = held_done
