use Rattle.plane.proofs.Octagon.{corners_law, strict_corners_law}
use Rattle.plane.proofs.covering.corners_law.Goals as goal

pub returns : goal.returns
returns c = record { points = corners_law; inner = strict_corners_law }
