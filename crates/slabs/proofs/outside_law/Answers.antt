use Rattle.slabs.proofs.Outside.{outside_law}
use Rattle.slabs.proofs.Framed.{framed_law}
use Rattle.slabs.proofs.outside_law.Goals as goal

pub returns-clause-covers : goal.returns-clause-covers
returns-clause-covers c = outside_law

pub returns-clause-closed : goal.returns-clause-closed
returns-clause-closed c = framed_law
