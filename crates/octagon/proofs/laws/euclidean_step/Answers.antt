use Rattle.plane.proofs.Euclid.{euclid}
use Rattle.octagon.proofs.laws.euclidean_step.Goals as goal

pub returns : goal.returns
returns c = euclid
