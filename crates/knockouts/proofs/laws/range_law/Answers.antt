use Rattle.knockouts.proofs.Range.{range_law}
use Rattle.knockouts.proofs.laws.range_law.Goals as goal

pub returns : goal.returns
returns c = range_law
