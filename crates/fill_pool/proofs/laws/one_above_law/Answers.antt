use Rattle.fill_pool.proofs.Aboves.{one_above}
use Rattle.fill_pool.proofs.laws.one_above_law.Goals as goal

pub returns : goal.returns
returns c = one_above
