use Rattle.plane.proofs.Split.{order_law}
use Rattle.plane.proofs.covering.cover_order_law.Goals as goal

pub returns : goal.returns
returns c = order_law
