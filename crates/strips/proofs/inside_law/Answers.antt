use Rattle.strips.proofs.Inside.{inside_law}
use Rattle.strips.proofs.inside_law.Goals as goal

pub returns : goal.returns
returns c = inside_law
