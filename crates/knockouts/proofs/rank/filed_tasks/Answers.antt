use Rattle.std.proofs.Common.{map}
use Rattle.fills.specs.Fills.{task_of}
use Rattle.knockouts.proofs.Placing.{zone_more}
use Rattle.knockouts.proofs.rank.filed_tasks.Goals as goal

pub each-preserved : goal.each-preserved
each-preserved c =
    zone_more c.args.count c.each.i c.args.zones.now (map task_of c.each.tasks.items) _ _ c.index-zones-i.result c.each-test.true
    c.index-zones-i.is c.in_ok-tasks.ensures c.each.invariant
