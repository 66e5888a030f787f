use Rattle.outline_slab.proofs.OneFault.{no_fault_law}
use Rattle.outline_slab.proofs.laws.no_fault.Goals as goal

pub returns : goal.returns
returns c = no_fault_law
