use Rattle.output_rules.proofs.Placing.{placed, some_bytes}
use Rattle.output_rules.proofs.placed_law.Goals as goal

pub returns-clause-placed : goal.returns-clause-placed
returns-clause-placed c = placed

pub returns-clause-some : goal.returns-clause-some
returns-clause-some c = some_bytes
