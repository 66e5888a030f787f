use Rattle.std.proofs.Common.{◌^◌}
use Rattle.zone_fill.proofs.Walling.{adds_none, adds_some}
use Rattle.zone_fill.proofs.Rooms.{inside_room, added_room}
use Rattle.zone_fill.proofs.walls.with_area.Goals as goal

pub returns-then-has_layer : goal.returns-then-has_layer
returns-then-has_layer c =
    let e = rw c.deref.ensures.value at c.in_ok-more.ensures in
    record {
      walls =
          adds_some c.args.layer c.args.area.now c.args.walls.items c.in_ok-octs.octs.items c.in_ok-more.more.items (rw c.has_layer.ensures at c.if-has_layer.true) c.in_ok-octs.ensures.octs
          c.in_ok-octs.ensures.points c.in_ok-octs.ensures.filling e;
      room =
          added_room (2 ^ 31) c.args.walls.items c.in_ok-octs.octs.items c.in_ok-more.more.items c.requires.room
          (inside_room c.args.area.now.outline c.in_ok-octs.octs.items c.vertices.ensures.simple c.vertices.ensures.within c.in_ok-octs.ensures.octs c.in_ok-octs.ensures.points) e;
    }

pub returns : goal.returns
returns c = record { walls = adds_none c.args.layer c.args.area.now c.args.walls.items (rw c.has_layer.ensures at c.if-has_layer.false); room = c.requires.room }
