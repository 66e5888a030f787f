use Rattle.std.proofs.Common.{sym, subst}
use Rattle.std.specs.List.{All}
use Rattle.islands.specs.Held.{IsAnchorInRoom}
use Rattle.clusters.proofs.SamePoints.{shapes_room}
use Rattle.clusters.proofs.reading.shapes_of.Goals as goal

pub returns-clause-room : goal.returns-clause-room
returns-clause-room c =
    subst (All IsAnchorInRoom) (sym c.in_ok-shapes.ensures) (shapes_room c.args.board.now.board c.sound.ensures c.args.stacks.now c.requires c.args.node)
