use Rattle.grid_sets.proofs.CellPoints.{cells_points}
use Rattle.grid_sets.proofs.Apart.{cells_apart_law, cells_tight_law}
use Rattle.grid_sets.proofs.cells_law.Goals as goal

pub returns-clause-points : goal.returns-clause-points
returns-clause-points c = cells_points

pub returns-clause-apart : goal.returns-clause-apart
returns-clause-apart c = cells_apart_law

pub returns-clause-tight : goal.returns-clause-tight
returns-clause-tight c = cells_tight_law
