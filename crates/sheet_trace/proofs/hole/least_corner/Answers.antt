use Rattle.sheet_trace.proofs.Opens.{least_step, least_end}
use Rattle.sheet_trace.proofs.hole.least_corner.Goals as goal

pub each-preserved : goal.each-preserved
each-preserved c = least_step c.args.walk.now c.each.edge-index _ _ _ _ c.each-test.true c.lesser-least.ensures c.each.invariant

pub returns : goal.returns
returns c = least_end c.args.walk.now c.each.edge-index _ _ c.each-test.false c.each.invariant
