use Rattle.refill_laws.proofs.Dirtied.{no_edit, snoc_law, flags_law}
use Rattle.refill_laws.proofs.snoc_law.Goals as goal

pub returns-clause-none : goal.returns-clause-none
returns-clause-none c = no_edit

pub returns-clause-more : goal.returns-clause-more
returns-clause-more c = snoc_law

pub returns-clause-flags : goal.returns-clause-flags
returns-clause-flags c = flags_law
