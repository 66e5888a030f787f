use Rattle.pool_rules.proofs.Runs.{events}
use Rattle.pool_rules.proofs.events_law.Goals as goal

pub returns : goal.returns
returns c = events
