use Rattle.std.proofs.Common.{arith, ◌-◌}
use Rattle.sheet_trace.proofs.Folds.{loop_step, parts_end}
use Rattle.sheet_trace.proofs.level.put_level_parts.Goals as goal

pub each-preserved : goal.each-preserved
each-preserved c = record {
  parts = loop_step c.args.strips.now c.args.corners.now c.each.i _ _ _ _ _ c.each.invariant.begun c.each-test.true c.in_ok-put_level_part.ensures c.each.invariant.parts;
  begun = omega arith;
}

pub returns : goal.returns
returns c = parts_end c.args.strips.now c.args.corners.now (c.each.i - 1) _ _ (omega (arith, c.each-test.false, c.each.invariant.begun)) c.each.invariant.parts
