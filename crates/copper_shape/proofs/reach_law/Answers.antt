use Rattle.copper_shape.proofs.Reach.{reach_law}
use Rattle.copper_shape.proofs.reach_law.Goals as goal

pub returns : goal.returns
returns c = reach_law
