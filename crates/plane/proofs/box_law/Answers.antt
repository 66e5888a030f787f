use Rattle.plane.proofs.Moved.{box_law, tight_box_law}
use Rattle.plane.proofs.box_law.Goals as goal

pub returns : goal.returns
returns c = record { points = box_law; tight = tight_box_law }
