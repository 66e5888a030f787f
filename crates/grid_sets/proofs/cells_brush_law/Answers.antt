use Rattle.grid_sets.proofs.Brushed.{cells_brush_law}
use Rattle.grid_sets.proofs.cells_brush_law.Goals as goal

pub returns : goal.returns
returns c = cells_brush_law
