use Rattle.edit_changes.proofs.Changes.{change_law}
use Rattle.edit_changes.proofs.change_law.Goals as goal

pub returns : goal.returns
returns c = change_law
