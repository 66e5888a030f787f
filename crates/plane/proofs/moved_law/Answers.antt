use Rattle.plane.proofs.Moved.{moved_law, strict_moved_law}
use Rattle.plane.proofs.moved_law.Goals as goal

pub returns : goal.returns
returns c = record { points = moved_law; inner = strict_moved_law }
