use Rattle.fills.proofs.Points.{parts_are}
use Rattle.fills.proofs.parts_law.Goals as goal

pub returns : goal.returns
returns c = parts_are
