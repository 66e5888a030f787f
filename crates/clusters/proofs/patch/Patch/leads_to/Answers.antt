use Rattle.fill_rules.specs.Clusters.{AreTouching}
use Rattle.clusters.proofs.Links.{leads_is}
use Rattle.clusters.proofs.patch.Patch.leads_to.Goals as goal

pub returns : goal.returns
unfolding AreTouching
returns c = leads_is c.args.self.now c.args.other.now c.touches.result c.if-self-other.false c.if-self-other-2.false (c.share_layer.ensures.0 c.if-not-share_layer.false) c.touches.ensures
