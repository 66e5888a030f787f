use Rattle.std.proofs.Common.{◌^◌}
use Rattle.plane.specs.Covering.{edges_of}
use Rattle.zone_fill.proofs.Walling.{outside_walls}
use Rattle.zone_fill.proofs.Rooms.{outside_room, stout_room}
use Rattle.zone_fill.proofs.walls.outside.Goals as goal

pub returns : goal.returns
returns c =
    let e = rw (c.new.ensures.items, c.deref.ensures.value) at c.in_ok-walls.ensures in
    record {
      walls =
          outside_walls c.args.outline.now c.args.layer c.args.frame.now c.in_ok-octs.octs.items c.in_ok-walls.walls.items c.in_ok-octs.ensures.octs c.in_ok-octs.ensures.points
          c.in_ok-octs.ensures.filling e;
      room =
          stout_room (2 ^ 31) c.in_ok-octs.octs.items c.in_ok-walls.walls.items
          (outside_room (2 ^ 31) (edges_of c.args.outline.now) c.args.frame.now c.in_ok-octs.octs.items c.in_ok-octs.ensures.octs c.in_ok-octs.ensures.points c.requires.near) e;
    }
