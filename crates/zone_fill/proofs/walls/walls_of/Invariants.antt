use Rattle.std.proofs.Common.{◌^◌, take}
use Rattle.std.specs.List.{All}
use Rattle.octagon.specs.Room.{IsAround}
use Rattle.centres.specs.Walls.{AreWallsOf}
use Rattle.zone_fill.proofs.walls.walls_of.Given as goal

abbrev pub invariant-each : goal.invariant-each
invariant-each l = AreWallsOf l.outline l.layer (take l.area-index l.areas) l.frame l.walls.items × All (IsAround (2 ^ 31)) l.walls.items
