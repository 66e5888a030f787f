use Rattle.plane.proofs.Tight.{same_points}
use Rattle.plane.proofs.same_points_law.Goals as goal

pub returns : goal.returns
returns c = same_points
