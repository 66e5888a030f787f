use Rattle.strips.proofs.Right.{sweep}
use Rattle.strips.proofs.sweep_law.Goals as goal

pub returns : goal.returns
returns c = sweep
