use Rattle.strips.proofs.Cuts.{whole_law}
use Rattle.strips.proofs.whole_law.Goals as goal

pub returns : goal.returns
returns c = whole_law
