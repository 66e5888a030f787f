use Rattle.std.proofs.Common.{arith}
use Rattle.std.proofs.lemmas.Int.{ints}
use Rattle.scan_rows.proofs.Pieces.{bounded_of}
use Rattle.scan_rows.proofs.cut.eight_of.Goals as goal

pub returns-clause-bounded : goal.returns-clause-bounded
returns-clause-bounded c =
    let b = bounded_of c.args.o.now c.x0.ensures.oct in
    record { x0 = omega (arith, ints, b); x1 = omega (arith, ints, b); y0 = omega (arith, ints, b); y1 = omega (arith, ints, b); s0 = omega (arith, ints, b); s1 = omega (arith, ints, b); d0 = omega (arith, ints, b); d1 = omega (arith, ints, b) }
