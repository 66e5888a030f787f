use Rattle.dirty_rules.proofs.DirtySets.{first_rule, second_rule, least_set}
use Rattle.dirty_rules.proofs.dirty_law.Goals as goal

pub returns : goal.returns
returns c = record { first = first_rule; second = second_rule; least = least_set }
