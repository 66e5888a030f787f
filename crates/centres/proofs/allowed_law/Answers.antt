use Rattle.centres.proofs.Allowed.{allowed_law, grown_law}
use Rattle.centres.proofs.allowed_law.Goals as goal

pub returns-clause-allowed : goal.returns-clause-allowed
returns-clause-allowed c = allowed_law

pub returns-clause-list : goal.returns-clause-list
returns-clause-list c = grown_law
