use Rattle.std.proofs.Common.{arith}
use Rattle.std.proofs.lemmas.Int.{ints, clamps}
use Rattle.bins.proofs.frame.grown.Goals as goal

pub returns-clause-new : goal.returns-clause-new
returns-clause-new c =
    let o = c.x0.ensures.oct in
    record {
      x_low = omega (arith, ints, clamps);
      x_high = omega (arith, ints, clamps);
      y_low = omega (arith, ints, clamps);
      y_high = omega (arith, ints, clamps);
    }

pub returns-clause-old : goal.returns-clause-old
returns-clause-old c o h = record {
  x_low = omega (arith, ints, clamps, h.x_low);
  x_high = omega (arith, ints, clamps, h.x_high);
  y_low = omega (arith, ints, clamps, h.y_low);
  y_high = omega (arith, ints, clamps, h.y_high);
}
