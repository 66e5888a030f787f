use Rattle.output_rules.proofs.Replacing.{replaced_law}
use Rattle.output_rules.proofs.replaced_law.Goals as goal

pub returns : goal.returns
returns c = replaced_law
