use Rattle.plane.proofs.Tight.{tight_law}
use Rattle.plane.proofs.tight_law.Goals as goal

pub returns : goal.returns
returns c = tight_law
