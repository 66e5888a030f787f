use Rattle.std.proofs.Common.{◌≡◌, ◌*◌, [], length, arith}
use Rattle.desk.specs.Room.{cost_of, HasRoomTold}
use Rattle.desk.proofs.Rooms.{has_less, room_left, cost-with_file}
use Rattle.run_table.proofs.desks.pass_on.Goals as goal

pub append-requires : goal.append-requires
append-requires g c =
    let free : cost_of (g.D.Desk.seen c.create.new.self) c.args.name.now ≡ 0 = cost-with_file _ _ c.args.name.now [] c.in_ok-create.ensures.ok in
    let left : HasRoomTold (g.D.Desk.room c.create.new.self) (3 * length c.args.piece.now) = room_left _ _ _ (3 * length c.args.piece.now) c.requires c.in_ok-create.ensures.spent in
    has_less _ _ (3 * length c.args.piece.now) (omega arith) left

pub say-requires : goal.say-requires
say-requires g c =
    let free : cost_of (g.D.Desk.seen c.create.new.self) c.args.name.now ≡ 0 = cost-with_file _ _ c.args.name.now [] c.in_ok-create.ensures.ok in
    let left : HasRoomTold (g.D.Desk.room c.create.new.self) (3 * length c.args.piece.now) = room_left _ _ _ (3 * length c.args.piece.now) c.requires c.in_ok-create.ensures.spent in
    room_left _ _ _ (length c.args.piece.now) (has_less _ _ (3 * length c.args.piece.now) (omega (arith, c.in_ok-taken.ensures.within)) left) c.in_ok-taken.ensures.spent

pub complain-requires : goal.complain-requires
complain-requires g c =
    let free : cost_of (g.D.Desk.seen c.create.new.self) c.args.name.now ≡ 0 = cost-with_file _ _ c.args.name.now [] c.in_ok-create.ensures.ok in
    let left : HasRoomTold (g.D.Desk.room c.create.new.self) (3 * length c.args.piece.now) = room_left _ _ _ (3 * length c.args.piece.now) c.requires c.in_ok-create.ensures.spent in
    let more : HasRoomTold (g.D.Desk.room c.append.new.self) (2 * length c.args.piece.now) = room_left _ _ _ (2 * length c.args.piece.now) (has_less _ _ (3 * length c.args.piece.now) (omega (arith, c.in_ok-taken.ensures.within)) left) c.in_ok-taken.ensures.spent in
    room_left _ _ _ (length c.args.piece.now) (has_less _ _ (2 * length c.args.piece.now) (omega (arith, c.in_ok-say.ensures.within)) more) c.in_ok-say.ensures.spent
