use Rattle.grid_sets.specs.Points.{HasPoint}
use Rattle.kept_copper.proofs.Reaches.{cells_are, octs_around}
use Rattle.kept_copper.proofs.Apart.{cells_apart}
use Rattle.kept_copper.proofs.cells.cell_octs.Goals as goal

pub returns-clause-cells : goal.returns-clause-cells
returns-clause-cells c = cells_are (HasPoint c.args.rows.now) c.in_ok-cells.cells.items c.in_ok-octs.octs.items (rw c.deref.ensures.value at c.in_ok-octs.ensures) c.in_ok-cells.ensures.cells

pub returns-clause-reach : goal.returns-clause-reach
returns-clause-reach c m f = octs_around m c.args.rows.now c.in_ok-cells.cells.items c.in_ok-octs.octs.items (rw c.deref.ensures.value at c.in_ok-octs.ensures) c.in_ok-cells.ensures.cells f

pub returns-clause-apart : goal.returns-clause-apart
returns-clause-apart c = cells_apart c.cells_law.ensures.tiles c.args.rows.now c.in_ok-cells.cells.items c.in_ok-octs.octs.items (rw c.deref.ensures.value at c.in_ok-octs.ensures) c.in_ok-cells.ensures.cells
