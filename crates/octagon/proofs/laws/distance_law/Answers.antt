use Rattle.octagon.proofs.Separation.{distance_law}
use Rattle.octagon.proofs.laws.distance_law.Goals as goal

pub returns : goal.returns
returns c = distance_law
