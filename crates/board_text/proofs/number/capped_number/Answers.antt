use Rattle.std.proofs.Common.{arith}
use Rattle.grid_num.proofs.Capped.{capped_more}
use Rattle.board_text.proofs.number.capped_number.Goals as goal

pub loop-digit-preserved : goal.loop-digit-preserved
loop-digit-preserved c = record {
  small = omega arith;
  same = rw (c.min-sum.ensures, c.from.ensures) (capped_more 4294967296 c.loop-digit.sum 0 c.args.digits.now c.loop-digit.digit-index c.loop-digit-test.true c.loop-digit.invariant.same);
}
