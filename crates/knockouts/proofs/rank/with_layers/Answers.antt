use Rattle.std.proofs.Common.{map}
use Rattle.fills.specs.Fills.{task_of}
use Rattle.knockouts.proofs.Placing.{layer_more}
use Rattle.knockouts.proofs.rank.with_layers.Goals as goal

pub each-preserved : goal.each-preserved
each-preserved c =
    layer_more c.args.zone c.args.layers c.each.layer (map task_of c.args.tasks.items) (map task_of c.each.all.items) _ c.has_layer.result c.has_layer.ensures c.in_ok-all.ensures c.each.invariant
