use Rattle.std.proofs.Common.{sym}
use Rattle.board_text.proofs.Lengths.{length_reads, fault_reads}
use Rattle.board_text.proofs.number.length_fault.Goals as goal

pub returns-in-Ok : goal.returns-in-Ok
returns-in-Ok c = sym (length_reads c.args.text.now c.in-Ok.field-0 c.in-Ok.ensures.found)

pub returns-in-Err : goal.returns-in-Err
returns-in-Err c = sym (fault_reads c.args.text.now c.in-Err.fault c.in-Err.ensures.fault)
