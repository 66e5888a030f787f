use Rattle.pool_rules.proofs.Runs.{one_take}
use Rattle.pool_rules.proofs.take_law.Goals as goal

pub returns : goal.returns
returns c = one_take
