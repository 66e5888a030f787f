use Rattle.plane.proofs.Euclid.{euclid}
use Rattle.plane.proofs.euclidean_law.Goals as goal

pub returns : goal.returns
returns c = euclid
