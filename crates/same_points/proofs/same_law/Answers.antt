use Rattle.same_points.proofs.Laws.{same_drawn_law}
use Rattle.same_points.proofs.same_law.Goals as goal

pub returns : goal.returns
returns c = same_drawn_law
