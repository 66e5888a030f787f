use Rattle.fill_rules.proofs.Laws.{near_grows, clear_shrinks}
use Rattle.fill_rules.proofs.near_law.Goals as goal

pub returns-clause-points : goal.returns-clause-points
returns-clause-points c = near_grows

pub returns-clause-clear : goal.returns-clause-clear
returns-clause-clear c = clear_shrinks
