use Rattle.edit_facts.proofs.InText.{edit_law}
use Rattle.edit_facts.proofs.edit_law.Goals as goal

pub returns : goal.returns
returns c = edit_law
