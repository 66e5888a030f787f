use Rattle.clusters.proofs.Links.{nodes_linked}
use Rattle.clusters.proofs.node_links.labels.Goals as goal

pub labels-requires-clause-links : goal.labels-requires-clause-links
labels-requires-clause-links c = nodes_linked c.touch_law.ensures.touch c.args.patches.items c.args.count c.requires.each
