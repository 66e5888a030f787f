use Rattle.std.proofs.Common.{arith}
use Rattle.std.proofs.lemmas.Int.{ints}
use Rattle.octagon.proofs.Room.{balls_room, moved_ball_room}
use Rattle.geometry_tests.proofs.octagons.sums_add_up_slanted_sides_too.Goals as goal

pub sum-twice-requires : goal.sum-twice-requires
sum-twice-requires g c = rw (c.ball.ensures, c.ball-2.ensures) (balls_room 5 5 (omega arith))

pub sum-grown-requires : goal.sum-grown-requires
sum-grown-requires g c = rw (c.ball-4.ensures, c.ball-5.ensures) (balls_room 5 3 (omega arith))

pub shift-moved-requires-clause-room : goal.shift-moved-requires-clause-room
shift-moved-requires-clause-room g c =
    rw c.ball-6.ensures (moved_ball_room 5 100 _ _ (omega arith) (record { low = omega (arith, ints); high = omega (arith, ints) }) (record { low = omega (arith, ints); high = omega (arith, ints) }))
