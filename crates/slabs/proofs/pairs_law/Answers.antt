use Rattle.slabs.proofs.Law.{pairs_law}
use Rattle.slabs.proofs.pairs_law.Goals as goal

pub returns : goal.returns
returns c = pairs_law
