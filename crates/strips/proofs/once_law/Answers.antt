use Rattle.strips.proofs.Once.{once_law}
use Rattle.strips.proofs.once_law.Goals as goal

pub returns : goal.returns
returns c = once_law
