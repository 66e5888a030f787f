use Rattle.fill_rules.proofs.ClusterMembers.{node_law}
use Rattle.fill_rules.proofs.joined.node_law.Goals as goal

pub returns : goal.returns
returns c = node_law
