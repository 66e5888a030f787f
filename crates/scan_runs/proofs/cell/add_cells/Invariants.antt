use Rattle.std.proofs.Common.{◌≡◌, ◌++◌, take}
use Rattle.scan_runs.specs.Strips.{band_of}
use Rattle.scan_runs.specs.Cells.{run_cells}
use Rattle.scan_runs.proofs.cell.add_cells.Given as goal

abbrev pub invariant-runs : goal.invariant-runs
invariant-runs l = l.cells.items ≡ l.initial.cells.items ++ run_cells (band_of l.strip) l.band 0 (take l.i l.strip.runs.items)
