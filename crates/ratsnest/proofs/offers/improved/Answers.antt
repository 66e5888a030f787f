use Rattle.std.proofs.Common.{add-one}
use Rattle.ratsnest.proofs.Better.{improved_none, improved_more}
use Rattle.ratsnest.proofs.offers.improved.Goals as goal

pub each-init : goal.each-init
each-init c = improved_none _ _ c.requires.sound

pub each-preserved : goal.each-preserved
each-preserved c = rw (add-one c.each.m-index) (improved_more _ _ _ _ _ _ c.each-test.true (c.requires.meets c.each.m-index 0 c.each-test.true)
    c.each.invariant c.better-best.ensures)
