use Rattle.sheet_trace.proofs.Folds.{sides_step, sides_end}
use Rattle.sheet_trace.proofs.sides.sides_of.Goals as goal

pub each-preserved : goal.each-preserved
each-preserved c =
    sides_step c.args.strips.now c.each.strip-index _ _ _ _ _ _ _ c.each-test.true c.left_side.ensures c.right_side.ensures c.in_ok-push.ensures.items c.in_ok-push-2.ensures.items c.each.invariant

pub returns : goal.returns
returns c = sides_end c.args.strips.now c.each.strip-index _ _ c.each-test.false c.each.invariant
