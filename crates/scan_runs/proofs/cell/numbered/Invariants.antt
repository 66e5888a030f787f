use Rattle.std.proofs.Common.{◌≡◌, map, take}
use Rattle.scan_runs.specs.Strips.{band_of}
use Rattle.scan_runs.specs.Cells.{numbered_cells}
use Rattle.scan_runs.proofs.cell.numbered.Given as goal

abbrev pub invariant-bands : goal.invariant-bands
invariant-bands l = l.cells.items ≡ numbered_cells 0 (map band_of (take l.i l.bands))
