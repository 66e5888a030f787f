use Rattle.centres.proofs.Clear.{clear_by_law}
use Rattle.centres.proofs.Real.{real_needs_law}
use Rattle.centres.proofs.clear_law.Goals as goal

pub returns-clause-lesser : goal.returns-clause-lesser
returns-clause-lesser c = clear_by_law

pub returns-clause-real : goal.returns-clause-real
returns-clause-real c = real_needs_law
