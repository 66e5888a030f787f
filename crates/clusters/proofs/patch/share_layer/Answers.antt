use Rattle.std.proofs.Common.{arith}
use Rattle.clusters.proofs.Layers.{common_layer}
use Rattle.clusters.proofs.patch.share_layer.Goals as goal

pub returns : goal.returns
returns c = common_layer c.args.a c.args.b (omega arith)
