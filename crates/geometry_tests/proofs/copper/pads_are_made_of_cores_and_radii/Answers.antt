use Rattle.std.proofs.Common.{arith}
use Rattle.std.proofs.lemmas.Int.{ints}
use Rattle.plane.specs.Plane.{ball_of}
use Rattle.geometry_tests.proofs.copper.pads_are_made_of_cores_and_radii.Goals as goal

pub of_oct-piece-requires : goal.of_oct-piece-requires
unfolding ball_of
of_oct-piece-requires g c =
    rw c.ball.ensures (record { x_low = omega (arith, ints); x_high = omega (arith, ints); y_low = omega (arith, ints); y_high = omega (arith, ints) })
