use Rattle.edit_changes.proofs.LeftAlone.{left_alone_law}
use Rattle.edit_changes.proofs.left_alone_law.Goals as goal

pub returns : goal.returns
returns c = left_alone_law
