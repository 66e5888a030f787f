use Rattle.grid_num.proofs.Meanings.{one_fault_of, fault_or_length}
use Rattle.grid_num.proofs.read.one_fault.Goals as goal

pub returns : goal.returns
returns c = record { one = one_fault_of; no_length = fault_or_length }
