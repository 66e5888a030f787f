use Rattle.slabs.proofs.Law.{slabs_law}
use Rattle.slabs.proofs.slabs_law.Goals as goal

pub returns : goal.returns
returns c = slabs_law
