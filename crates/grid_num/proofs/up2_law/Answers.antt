use Rattle.grid_num.proofs.Roots.{up2_law}
use Rattle.grid_num.proofs.up2_law.Goals as goal

pub returns : goal.returns
returns c = up2_law
