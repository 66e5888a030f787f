use Rattle.fills.proofs.Thick.{thick}
use Rattle.fills.proofs.thick_law.Goals as goal

pub returns : goal.returns
returns c = thick
