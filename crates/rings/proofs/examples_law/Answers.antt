use Rattle.rings.proofs.Examples.{examples_law}
use Rattle.rings.proofs.examples_law.Goals as goal

pub returns : goal.returns
returns c = examples_law
