use Rattle.grid_sets.proofs.OneBands.{bands_law}
use Rattle.grid_sets.proofs.bands_law.Goals as goal

pub returns : goal.returns
returns c = bands_law
