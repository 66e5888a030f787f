use Rattle.clusters.specs.Inner.Links.{AreGathered}
use Rattle.clusters.proofs.Linking.{IsStretch}
use Rattle.clusters.proofs.node_links.NodeLinksLinks.linked.Given as goal

abbrev pub invariant-each : goal.invariant-each
invariant-each l = record {
  stretch : IsStretch l.self.patches.items l.fn.k l.first l.end;
  gathered : AreGathered l.self.patches.items l.fn.k l.i l.into.items;
}
