use Rattle.grid_num.proofs.Meanings.{same_parts}
use Rattle.grid_num.proofs.read.one_spelling.Goals as goal

pub returns : goal.returns
returns c = same_parts
