use Rattle.std.proofs.Common.{sym}
use Rattle.board_text.proofs.Areas.{area_reads, area_fault_reads}
use Rattle.board_text.proofs.number.area_fault.Goals as goal

pub returns-in-Ok : goal.returns-in-Ok
returns-in-Ok c = sym (area_reads c.args.text.now c.in-Ok.field-0 c.in-Ok.ensures.found)

pub returns-in-Err : goal.returns-in-Err
returns-in-Err c = sym (area_fault_reads c.args.text.now c.in-Err.fault c.in-Err.ensures.fault)
