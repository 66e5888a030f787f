use Rattle.refill_facts.proofs.Refilled.{refilled}
use Rattle.refill_facts.proofs.refilled_law.Goals as goal

pub returns : goal.returns
returns c = refilled
