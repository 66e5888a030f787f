use Rattle.fill_rules.proofs.Clusters.{cluster_law}
use Rattle.fill_rules.proofs.joined.cluster_law.Goals as goal

pub returns : goal.returns
returns c = cluster_law
