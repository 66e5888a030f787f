use Rattle.components.proofs.First.{first_law}
use Rattle.components.proofs.first_law.Goals as goal

pub returns : goal.returns
returns c = first_law
