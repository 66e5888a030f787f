use Rattle.scan_runs.proofs.OfSet.{cells_once, no_cells, tiles}
use Rattle.scan_runs.proofs.cells_law.Goals as goal

pub returns-clause-once : goal.returns-clause-once
returns-clause-once c = cells_once

pub returns-clause-none : goal.returns-clause-none
returns-clause-none c = no_cells

pub returns-clause-tiles : goal.returns-clause-tiles
returns-clause-tiles c = tiles
