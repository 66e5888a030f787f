use Rattle.slabs.proofs.Cutting.{more_cuts_law, level_cuts_law}
use Rattle.slabs.proofs.cuts_law.Goals as goal

pub returns-clause-more : goal.returns-clause-more
returns-clause-more c = more_cuts_law

pub returns-clause-level : goal.returns-clause-level
returns-clause-level c = level_cuts_law
