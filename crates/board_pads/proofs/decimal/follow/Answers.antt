use Rattle.std.proofs.Common.{arith}
use Rattle.grid_num.proofs.Capped.{capped_more}
use Rattle.board_pads.proofs.decimal.follow.Goals as goal

pub each-preserved : goal.each-preserved
each-preserved c = record {
  small = omega (arith, c.min-sum.ensures);
  same = rw (c.min-sum.ensures, c.from.ensures, c.saturating_sub.ensures) (capped_more c.args.most c.each.sum c.args.before c.args.digits.now c.each.digit-index c.each-test.true c.each.invariant.same);
}
