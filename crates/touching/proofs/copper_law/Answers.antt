use Rattle.touching.proofs.Shared.{copper_law}
use Rattle.touching.proofs.copper_law.Goals as goal

pub returns : goal.returns
returns c = copper_law
