use Rattle.components.specs.Kept.{IsMet}
use Rattle.zone_fill.proofs.Choosing.{chosen_by}
use Rattle.zone_fill.proofs.live.met_octs.Goals as goal

pub each-preserved : goal.each-preserved
each-preserved c =
    rw c.in_ok-push_if.ensures
    (chosen_by (IsMet c.args.blots.now) c.oct-item.result c.args.octs.now c.each.oct-index c.each.met.items c.is_met.result c.each-test.true c.oct-item.is c.is_met.ensures
    c.each.invariant)
