use Rattle.std.proofs.Common.{arith}
use Rattle.std.proofs.lemmas.Int.{ints, clamps}
use Rattle.scan_runs.proofs.span.wider.Goals as goal

pub returns : goal.returns
returns c =
    let o = c.y0.ensures.oct in
    record {
      above = (omega (arith, ints, clamps), omega (arith, ints, clamps));
      below = (omega (arith, ints, clamps), omega (arith, ints, clamps));
      near = λ n m. (
        record { low = omega (arith, ints, clamps, n.low, o); high = omega (arith, ints, clamps, n.high, o) },
        record { low = omega (arith, ints, clamps, m.low, o); high = omega (arith, ints, clamps, m.high, o) },
      );
      across = λ x y w. record { low = omega (arith, ints, w.x_low, o.x_low); high = omega (arith, ints, w.x_high, o.x_high) };
    }
