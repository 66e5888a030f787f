use Rattle.plane.proofs.Moved.{grid_law, strict_grid_law}
use Rattle.plane.proofs.grid_law.Goals as goal

pub returns : goal.returns
returns c = record { points = grid_law; inner = strict_grid_law }
