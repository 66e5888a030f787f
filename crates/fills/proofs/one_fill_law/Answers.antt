use Rattle.fills.proofs.Same.{one_fill}
use Rattle.fills.proofs.one_fill_law.Goals as goal

pub returns : goal.returns
returns c = one_fill
