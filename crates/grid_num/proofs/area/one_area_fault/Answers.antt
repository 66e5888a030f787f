use Rattle.grid_num.proofs.Areas.{one_area_fault_of, fault_or_area}
use Rattle.grid_num.proofs.area.one_area_fault.Goals as goal

pub returns : goal.returns
returns c = record { one = one_area_fault_of; no_area = fault_or_area }
