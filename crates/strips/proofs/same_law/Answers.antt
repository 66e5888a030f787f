use Rattle.strips.proofs.Same.{same_law}
use Rattle.strips.proofs.same_law.Goals as goal

pub returns : goal.returns
returns c = same_law
