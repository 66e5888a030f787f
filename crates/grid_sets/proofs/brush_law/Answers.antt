use Rattle.grid_sets.proofs.CellBrushed.{brush_law}
use Rattle.grid_sets.proofs.brush_law.Goals as goal

pub returns : goal.returns
returns c = brush_law
