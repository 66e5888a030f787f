use Rattle.octagon.proofs.Separation.{sum_law}
use Rattle.octagon.proofs.laws.sum_law.Goals as goal

pub returns : goal.returns
returns c = sum_law
