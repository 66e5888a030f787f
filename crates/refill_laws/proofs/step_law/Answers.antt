use Rattle.refill_laws.proofs.Steps.{start_law, kept_step, made_step}
use Rattle.refill_laws.proofs.step_law.Goals as goal

pub returns-clause-start : goal.returns-clause-start
returns-clause-start c = start_law

pub returns-clause-kept : goal.returns-clause-kept
returns-clause-kept c = kept_step

pub returns-clause-made : goal.returns-clause-made
returns-clause-made c = made_step
