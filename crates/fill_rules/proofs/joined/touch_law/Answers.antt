use Rattle.fill_rules.proofs.Clusters.{touch_law, join_law}
use Rattle.fill_rules.proofs.joined.touch_law.Goals as goal

pub returns : goal.returns
returns c = record { touch = touch_law; join = join_law }
