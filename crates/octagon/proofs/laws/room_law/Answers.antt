use Rattle.octagon.proofs.Room.{ball_reach, sum_reach, moved_reach, points_reach, room_law}
use Rattle.octagon.proofs.laws.room_law.Goals as goal

pub returns : goal.returns
returns c = record { ball = ball_reach; sum = sum_reach; moved = moved_reach; points = points_reach; room = room_law }
