use Rattle.run_rules.proofs.Ranges.{range_law}
use Rattle.run_rules.proofs.range_law.Goals as goal

pub returns : goal.returns
returns c = range_law
