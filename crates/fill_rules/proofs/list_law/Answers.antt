use Rattle.fill_rules.proofs.Lists.{lists_cover, lists_one}
use Rattle.fill_rules.proofs.list_law.Goals as goal

pub returns-clause-fills : goal.returns-clause-fills
returns-clause-fills c = lists_cover

pub returns-clause-one : goal.returns-clause-one
returns-clause-one c = lists_one
