use Rattle.touching.proofs.Decided.{decision_law}
use Rattle.touching.proofs.decision_law.Goals as goal

pub returns : goal.returns
returns c = decision_law
