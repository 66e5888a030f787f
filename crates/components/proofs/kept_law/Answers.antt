use Rattle.components.proofs.Kept.{kept}
use Rattle.components.proofs.kept_law.Goals as goal

pub returns : goal.returns
returns c = kept
