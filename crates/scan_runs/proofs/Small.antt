-- The bounds of an octagon are within reach.
use Rattle.std.proofs.Common.{arith}
use Rattle.std.proofs.lemmas.Int.{ints}
use Rattle.plane.specs.Plane.{Bounds, IsOct}
use Rattle.plane.specs.Narrow.{IsSmall}

pub IsOct-IsSmall : (o : Bounds) → IsOct o → IsSmall o
IsOct-IsSmall o h =
    let t = h.tight in
    record {
      x0 = record { low = omega (arith, ints); high = omega (arith, ints) };
      x1 = record { low = omega (arith, ints); high = omega (arith, ints) };
      y0 = record { low = omega (arith, ints); high = omega (arith, ints) };
      y1 = record { low = omega (arith, ints); high = omega (arith, ints) };
      s0 = record { low = omega (arith, ints); high = omega (arith, ints) };
      s1 = record { low = omega (arith, ints); high = omega (arith, ints) };
      d0 = record { low = omega (arith, ints); high = omega (arith, ints) };
      d1 = record { low = omega (arith, ints); high = omega (arith, ints) };
    }
