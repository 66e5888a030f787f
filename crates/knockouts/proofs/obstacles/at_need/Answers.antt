use Rattle.std.proofs.Common.{refl}
use Rattle.knockouts.specs.Obstacles.{need_of}
use Rattle.knockouts.proofs.Pushed.{need_more}
use Rattle.knockouts.proofs.obstacles.at_need.Goals as goal

pub each-preserved : goal.each-preserved
each-preserved c =
    rw c.in_ok-push.ensures.items
    (need_more need_of c.args.need c.args.hulls.now c.each.hull-index c.hull-item.result c.each.needs.items _ _ c.each-test.true c.hull-item.is refl c.each.invariant)
