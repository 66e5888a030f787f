use Rattle.refill_laws.proofs.Walks.{stay_law, refill_law}
use Rattle.refill_laws.proofs.refill_law.Goals as goal

pub returns-clause-stay : goal.returns-clause-stay
returns-clause-stay c = stay_law

pub returns-clause-refill : goal.returns-clause-refill
returns-clause-refill c = refill_law
