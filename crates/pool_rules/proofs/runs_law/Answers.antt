use Rattle.pool_rules.proofs.Runs.{lawful_good}
use Rattle.pool_rules.proofs.runs_law.Goals as goal

pub returns : goal.returns
returns c = lawful_good
