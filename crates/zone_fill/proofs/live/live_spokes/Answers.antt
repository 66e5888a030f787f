use Rattle.std.proofs.Common.{map}
use Rattle.components.specs.Kept.{IsMet}
use Rattle.knockouts.specs.Obstacles.{need_of}
use Rattle.zone_fill.specs.Inner.Live.{IsFree}
use Rattle.zone_fill.proofs.Choosing.{chosen_by}
use Rattle.zone_fill.proofs.live.live_spokes.Goals as goal

pub each-preserved : goal.each-preserved
each-preserved c =
    rw c.in_ok-push_if.ensures
    (chosen_by (λ o. IsFree c.args.frame.now c.args.walls.now (map need_of c.args.bars.now) o × IsMet c.args.blots.now o) c.spoke-item.result c.args.spokes.now c.each.spoke-index
    c.each.live.items c.is_live-wanted.result c.each-test.true c.spoke-item.is c.is_live-wanted.ensures c.each.invariant)
