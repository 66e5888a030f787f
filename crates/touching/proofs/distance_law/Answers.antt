use Rattle.touching.proofs.Nearest.{distance_law}
use Rattle.touching.proofs.distance_law.Goals as goal

pub returns : goal.returns
returns c = distance_law
