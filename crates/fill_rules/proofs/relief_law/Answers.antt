use Rattle.fill_rules.proofs.Clearance.{relief_clear}
use Rattle.fill_rules.proofs.relief_law.Goals as goal

pub returns : goal.returns
returns c = relief_clear
