use Rattle.plane.proofs.Split.{slits_law}
use Rattle.plane.proofs.covering.slits_law.Goals as goal

pub returns : goal.returns
returns c = slits_law
