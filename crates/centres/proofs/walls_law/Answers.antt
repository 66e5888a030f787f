use Rattle.centres.proofs.Walls.{walls_law}
use Rattle.centres.proofs.Frames.{frame_held}
use Rattle.centres.proofs.walls_law.Goals as goal

pub returns-clause-walls : goal.returns-clause-walls
returns-clause-walls c = walls_law

pub returns-clause-frame : goal.returns-clause-frame
returns-clause-frame c = frame_held
