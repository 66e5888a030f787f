use Rattle.std.proofs.Common.{refl}
use Rattle.sheet_trace.proofs.Rounds.{bends_step, bends_end}
use Rattle.sheet_trace.proofs.contour.bends.Goals as goal

pub each-preserved : goal.each-preserved
each-preserved c = bends_step c.args.walk.now c.each.goes-index _ _ _ _ _ _ c.each-test.true c.in_ok-put_bend.ensures refl c.each.invariant

pub returns : goal.returns
returns c = bends_end c.args.walk.now c.each.goes-index _ _ _ c.each-test.false c.each.invariant
