use Rattle.plane.proofs.Rows.{ends_law}
use Rattle.plane.proofs.covering.ends_law.Goals as goal

pub returns : goal.returns
returns c = ends_law
