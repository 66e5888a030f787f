use Rattle.plane.proofs.Near.{near_law}
use Rattle.plane.proofs.near_law.Goals as goal

pub returns : goal.returns
returns c = near_law
