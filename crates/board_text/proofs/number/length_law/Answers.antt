use Rattle.board_text.proofs.Lengths.{length_reads, length_is, fault_reads, zero_is}
use Rattle.board_text.proofs.number.length_law.Goals as goal

pub returns : goal.returns
returns c = record {
  length = λ text nm l. (length_reads text nm l, length_is text nm l);
  fault = λ text fault h. (fault_reads text fault h, zero_is text fault h);
}
