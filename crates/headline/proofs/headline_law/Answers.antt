use Rattle.headline.proofs.Headline.{headline}
use Rattle.headline.proofs.headline_law.Goals as goal

pub returns : goal.returns
returns c = headline (record {
  accepted = c.accepted_law.ensures;
  covered = c.covered_law.ensures;
  points = c.fill_points_law.ensures.points;
  clear = (let k = c.clearance_in_nanometres.ensures in record { core = k.core; copper = k.copper; edge = k.edge; arc = k.arc; zones = k.zones });
  classes = c.cluster_law.ensures;
  labels = c.label_law.ensures.clusters;
  nets = c.nets_law.ensures;
  trees = c.tree_law.ensures;
  ranges = c.range_law.ensures;
})
