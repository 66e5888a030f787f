use Rattle.plane.proofs.Repeats.{box_cover_law, strict_box_cover_law}
use Rattle.plane.proofs.covering.box_cover_law.Goals as goal

pub returns : goal.returns
returns c = record { points = box_cover_law; inner = strict_box_cover_law }
