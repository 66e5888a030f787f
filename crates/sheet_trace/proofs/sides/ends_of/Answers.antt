use Rattle.std.proofs.Common.{refl}
use Rattle.sheet_trace.proofs.Folds.{ends_step, ends_end}
use Rattle.sheet_trace.proofs.sides.ends_of.Goals as goal

pub each-preserved : goal.each-preserved
each-preserved c =
    ends_step c.args.edges.now c.each.edge-index _ _ _ _ _ _ _ c.each-test.true refl refl c.in_ok-push.ensures.items c.in_ok-push-2.ensures.items c.each.invariant

pub returns : goal.returns
returns c = ends_end c.args.edges.now c.each.edge-index _ _ c.each-test.false c.each.invariant
