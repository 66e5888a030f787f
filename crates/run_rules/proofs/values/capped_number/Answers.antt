use Rattle.std.proofs.Common.{arith}
use Rattle.grid_num.proofs.Capped.{capped_more}
use Rattle.run_rules.proofs.values.capped_number.Goals as goal

pub digits-preserved : goal.digits-preserved
digits-preserved c = record {
  small = omega arith;
  same = rw (c.min-sum.ensures, c.from.ensures) (capped_more 18446744073709551616 c.digits.sum 0 c.args.digits.now c.digits.digit-index c.digits-test.true c.digits.invariant.same);
}
