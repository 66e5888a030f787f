use Rattle.fills.proofs.Same.{same_fill}
use Rattle.fills.proofs.same_fill_law.Goals as goal

pub returns : goal.returns
returns c = same_fill
