use Rattle.output_rules.proofs.Reports.{nets_law}
use Rattle.output_rules.proofs.nets_law.Goals as goal

pub returns : goal.returns
returns c = nets_law
