use Rattle.std.proofs.Common.{arith}
use Rattle.std.proofs.lemmas.Int.{ints}
use Rattle.scan_runs.proofs.split.nearer_left.Goals as goal

pub overflow_sub-upper-2 : goal.overflow_sub-upper-2
overflow_sub-upper-2 c = let o = c.s0.ensures.oct in omega (arith, ints, o.tight)

pub overflow_sub-lower-2 : goal.overflow_sub-lower-2
overflow_sub-lower-2 c = let o = c.s0.ensures.oct in omega (arith, ints, o.tight)
