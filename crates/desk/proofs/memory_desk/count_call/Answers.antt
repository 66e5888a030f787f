use Rattle.std.proofs.Common.{◌∙◌}
use Rattle.desk.proofs.Listed.{found_listed}
use Rattle.desk.proofs.memory_desk.count_call.Goals as goal

pub returns-clause-listed : goal.returns-clause-listed
returns-clause-listed c = c.is_ok.ensures.value ∙ found_listed c.args.failing.now c.saturating_add.result c.binary_search.result c.requires c.binary_search.ensures.position
