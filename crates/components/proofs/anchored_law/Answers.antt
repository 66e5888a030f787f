use Rattle.components.proofs.Anchored.{anchored}
use Rattle.components.proofs.anchored_law.Goals as goal

pub returns : goal.returns
returns c = anchored
