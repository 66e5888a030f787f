use Rattle.hulls.proofs.Copper.{copper_law}
use Rattle.hulls.proofs.copper_law.Goals as goal

pub returns : goal.returns
returns c = copper_law
