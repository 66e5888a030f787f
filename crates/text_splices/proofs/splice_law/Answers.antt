use Rattle.text_splices.proofs.Splices.{one_law, size_law, undo_law}
use Rattle.text_splices.proofs.splice_law.Goals as goal

pub returns : goal.returns
returns c = record { one = one_law; size = size_law; undo = undo_law }
