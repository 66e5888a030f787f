use Rattle.std.proofs.Common.{sym, subst}
use Rattle.std.specs.Prelude.{◌↔◌, ◌+◌, IsTrue}
use Rattle.cores.specs.Room.{IsCoreInRoom}
use Rattle.copper_shape.specs.Shapes.{Copper}
use Rattle.touching.specs.Core.{Touches}
use Rattle.islands.proofs.Marking.{oct_room, touching_is}
use Rattle.islands.proofs.held.touches.Goals as goal

pub touches-requires-clause-other_room : goal.touches-requires-clause-other_room
touches-requires-clause-other_room c =
    subst (λ (s : Copper). IsCoreInRoom 1200000000 s.core) (sym c.of_oct.ensures) (oct_room c.args.oct.now c.requires.room)

pub returns : goal.returns
returns c =
    touching_is c.args.shape.now c.args.oct.now c.touches.result
    (subst (λ (s : Copper). IsTrue c.touches.result ↔ Touches (c.args.shape.now.radius + s.radius) c.args.shape.now.core s.core) c.of_oct.ensures c.touches.ensures)
