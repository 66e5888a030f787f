use Rattle.std.proofs.Common.{arith}
use Rattle.std.proofs.lemmas.Int.{ints}
use Rattle.geometry_tests.proofs.shapes.oct_of.Goals as goal

pub of_bounds-requires : goal.of_bounds-requires
of_bounds-requires c = record {
  x0 = record { low = omega (arith, ints); high = omega (arith, ints) };
  x1 = record { low = omega (arith, ints); high = omega (arith, ints) };
  y0 = record { low = omega (arith, ints); high = omega (arith, ints) };
  y1 = record { low = omega (arith, ints); high = omega (arith, ints) };
  s0 = record { low = omega (arith, ints); high = omega (arith, ints) };
  s1 = record { low = omega (arith, ints); high = omega (arith, ints) };
  d0 = record { low = omega (arith, ints); high = omega (arith, ints) };
  d1 = record { low = omega (arith, ints); high = omega (arith, ints) };
}
