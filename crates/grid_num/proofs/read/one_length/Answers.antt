use Rattle.grid_num.proofs.Meanings.{one_length_of}
use Rattle.grid_num.proofs.read.one_length.Goals as goal

pub returns : goal.returns
returns c = one_length_of
