use Rattle.output_rules.proofs.Bare.{bare_law}
use Rattle.output_rules.proofs.bare_law.Goals as goal

pub returns : goal.returns
returns c = bare_law
