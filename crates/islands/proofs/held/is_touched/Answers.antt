use Rattle.std.proofs.lemmas.Bool.{iff_false}
use Rattle.islands.proofs.Marking.{some_touches, none_more, none_touch}
use Rattle.islands.proofs.held.is_touched.Goals as goal

pub returns-then-touches : goal.returns-then-touches
returns-then-touches c = some_touches c.args.anchors.now c.args.oct.now c.each.shape-index c.shape-item.result c.each-test.true c.shape-item.is (c.touches.ensures.0 c.if-touches.true)

pub each-preserved : goal.each-preserved
each-preserved c =
    none_more c.args.anchors.now c.args.oct.now c.each.shape-index c.shape-item.result c.each-test.true c.shape-item.is
    (λ t. iff_false c.touches.ensures c.if-touches.false t) c.each.invariant

pub returns : goal.returns
returns c = none_touch c.args.anchors.now c.args.oct.now c.each.shape-index c.each-test.false c.each.invariant
