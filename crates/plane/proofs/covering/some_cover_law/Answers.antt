use Rattle.plane.proofs.Repeats.{some_cover_law}
use Rattle.plane.proofs.covering.some_cover_law.Goals as goal

pub returns : goal.returns
returns c = some_cover_law
