use Rattle.fills.proofs.Points.{spokes_last}
use Rattle.fills.proofs.spokes_law.Goals as goal

pub returns : goal.returns
returns c = spokes_last
