use Rattle.touching.proofs.Decided.{order_law}
use Rattle.touching.proofs.order_law.Goals as goal

pub returns : goal.returns
returns c = order_law
