use Rattle.kept_copper.proofs.Decided.{first_room}
use Rattle.kept_copper.proofs.staying.first_of.Goals as goal

pub returns-clause-room : goal.returns-clause-room
returns-clause-room c = rw (c.corners.ensures.value) (first_room c.args.cell.now c.x0.ensures.oct)
