use Rattle.knockouts.proofs.Near.{ranks_law}
use Rattle.knockouts.proofs.laws.ranks_law.Goals as goal

pub returns : goal.returns
returns c = ranks_law
