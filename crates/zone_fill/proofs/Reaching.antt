-- How far what is grown twice reaches.
use Rattle.std.proofs.Common.{ℕ, ◌+◌, ◌≤◌, ◌^◌, arith}
use Rattle.plane.specs.Plane.{Bounds, HasRoom, ball_of, sum_of}
use Rattle.octagon.specs.Room.{IsAround}
use Rattle.octagon.proofs.Room.{ball_reach, sum_reach, room_law}

pub grown_room : (o : Bounds) (r : ℕ) → IsAround (2 ^ 31) o → r ≤ 2 ^ 31 → HasRoom (sum_of o (ball_of r))
grown_room o r a l = room_law (2 ^ 31 + r) (sum_of o (ball_of r)) (omega (arith, l)) (sum_reach (2 ^ 31) r o (ball_of r) a (ball_reach r))

pub twice_grown_room : (o : Bounds) (n r : ℕ) → IsAround (2 ^ 31) o → n ≤ 2 ^ 31 → r ≤ 2 ^ 31 → HasRoom (sum_of (sum_of o (ball_of n)) (ball_of r))
twice_grown_room o n r a k l =
    room_law (2 ^ 31 + n + r) (sum_of (sum_of o (ball_of n)) (ball_of r)) (omega (arith, k, l))
    (sum_reach (2 ^ 31 + n) r (sum_of o (ball_of n)) (ball_of r) (sum_reach (2 ^ 31) n o (ball_of n) a (ball_reach n)) (ball_reach r))
