use Rattle.ratsnest.proofs.Law.{law}
use Rattle.ratsnest.proofs.tree_law.Goals as goal

pub returns : goal.returns
returns c = law
