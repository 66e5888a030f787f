use Rattle.touching.proofs.Least.{least_law}
use Rattle.touching.proofs.least_law.Goals as goal

pub returns : goal.returns
returns c = least_law
