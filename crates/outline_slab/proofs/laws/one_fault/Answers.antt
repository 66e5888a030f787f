use Rattle.outline_slab.proofs.OneFault.{one_fault_law}
use Rattle.outline_slab.proofs.laws.one_fault.Goals as goal

pub returns : goal.returns
returns c = one_fault_law
