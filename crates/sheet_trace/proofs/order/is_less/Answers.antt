use Rattle.std.proofs.Common.{◌∙◌, sym, pos, arith}
use Rattle.grid_num.specs.declared.Point.{Point}
use Rattle.sheet_trace.proofs.Ranked.{less_step, less_told_here, less_short, less_ends}
use Rattle.sheet_trace.proofs.order.is_less.Goals as goal

origin : Point
origin = record { x = pos 0; y = pos 0 }

pub returns-then-i-other : goal.returns-then-i-other
returns-then-i-other c = less_short c.args.one.now c.args.other.now c.each.i _ (omega (arith, c.if-i-other.true)) c.each.invariant.rest

pub returns-then-not-is_same : goal.returns-then-not-is_same
unfolding origin
returns-then-not-is_same c =
    less_told_here c.args.one.now c.args.other.now c.each.i origin origin _ _ c.each-test.true (omega (arith, c.if-i-other.false, c.each.invariant.within)) (sym c.is_same.ensures ∙ c.if-not-is_same.true) c.is_before.ensures
    c.each.invariant.rest

pub each-preserved : goal.each-preserved
unfolding origin
each-preserved c =
    let l = c.each-test.true in
    let m = c.if-i-other.false in
    let w = c.each.invariant.within in
    record {
      rest = less_step c.args.one.now c.args.other.now c.each.i origin origin _ l (omega (arith, m, w)) (sym c.is_same.ensures ∙ c.if-not-is_same.false) c.each.invariant.rest;
      within = omega (arith, m, w);
      far = omega (arith, l);
    }

pub returns : goal.returns
returns c = less_ends c.args.one.now c.args.other.now c.each.i _ (omega (arith, c.each-test.false, c.each.invariant.far)) c.each.invariant.within c.each.invariant.rest
