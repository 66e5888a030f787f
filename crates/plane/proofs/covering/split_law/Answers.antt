use Rattle.plane.proofs.Chains.{split_law}
use Rattle.plane.proofs.covering.split_law.Goals as goal

pub returns : goal.returns
returns c = split_law
