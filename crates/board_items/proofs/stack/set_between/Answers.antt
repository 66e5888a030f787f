use Rattle.std.proofs.Common.{◌-◌, ◌<◌, ◌^◌, arith}
use Rattle.board_items.proofs.Bits.{none_between, between_more, between_below}
use Rattle.board_items.proofs.stack.set_between.Goals as goal

pub each-init : goal.each-init
each-init c = none_between c.args.a c.args.b (c.args.count - 0)

pub overflow_mul-set : goal.overflow_mul-set
overflow_mul-set c =
    let l : c.each.set < 2 ^ 31 = between_below c.args.a c.args.b c.args.count c.each.step c.each.set c.requires.few c.each-test.true c.each.invariant in
    omega (arith, l)

pub overflow_add-set : goal.overflow_add-set
overflow_add-set c =
    let l : c.each.set < 2 ^ 31 = between_below c.args.a c.args.b c.args.count c.each.step c.each.set c.requires.few c.each-test.true c.each.invariant in
    omega (arith, l, c.bit.ensures.most)

pub each-preserved : goal.each-preserved
each-preserved c =
    rw (c.bit.ensures.value, c.is_between.ensures)
    (between_more c.args.a c.args.b c.args.count c.each.step c.each.set c.each-test.true c.each.invariant)
