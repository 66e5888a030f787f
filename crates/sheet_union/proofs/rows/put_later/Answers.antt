use Rattle.std.proofs.Common.{rules}
use Rattle.sheet_union.proofs.Walks.{later_step, later_stop, later_end}
use Rattle.sheet_union.proofs.rows.put_later.Goals as goal

pub returns-then-y1-y0 : goal.returns-then-y1-y0
returns-then-y1-y0 c =
    later_stop c.args.oct.now c.other-item.result c.args.later.now c.each.other-index _ _ _ _ c.each-test.true c.other-item.is c.y1.ensures.value c.y0.ensures.value
    (search rules) (search rules) c.if-y1-y0.true c.each.invariant

pub each-preserved : goal.each-preserved
each-preserved c =
    later_step c.args.oct.now c.other-item.result c.args.later.now c.each.other-index _ _ _ _ _ c.each-test.true c.other-item.is c.y1.ensures.value c.y0.ensures.value
    (search rules) (search rules) c.if-y1-y0.false c.in_ok-put_crossings.ensures c.each.invariant

pub returns : goal.returns
returns c = later_end c.args.oct.now c.args.later.now c.each.other-index _ _ c.each-test.false c.each.invariant
