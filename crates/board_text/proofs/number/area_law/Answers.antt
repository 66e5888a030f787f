use Rattle.board_text.proofs.Areas.{area_reads, area_is, area_fault_reads, no_area_is}
use Rattle.board_text.proofs.number.area_law.Goals as goal

pub returns : goal.returns
returns c = record {
  area = λ text area a. (area_reads text area a, area_is text area a);
  fault = λ text fault h. (area_fault_reads text fault h, no_area_is text fault h);
}
