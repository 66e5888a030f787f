use Rattle.std.proofs.Common.{arith}
use Rattle.std.proofs.lemmas.Int.{ints}
use Rattle.scan_rows.proofs.count.height.Goals as goal

pub range-requires-clause-order : goal.range-requires-clause-order
range-requires-clause-order c = let t = c.y0.ensures.oct.tight in omega (arith, ints)

pub range-requires-clause-low : goal.range-requires-clause-low
range-requires-clause-low c = let t = c.y0.ensures.oct in record { low = omega (arith, ints); high = omega (arith, ints) }

pub range-requires-clause-high : goal.range-requires-clause-high
range-requires-clause-high c = let t = c.y0.ensures.oct in record { low = omega (arith, ints); high = omega (arith, ints) }

pub returns-clause-value : goal.returns-clause-value
returns-clause-value c = let t = c.y0.ensures.oct in omega (arith, ints)
