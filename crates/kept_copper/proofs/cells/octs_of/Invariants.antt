use Rattle.std.proofs.Common.{◌≡◌, take}
use Rattle.scan_runs.specs.Cells.{octs_of}
use Rattle.kept_copper.proofs.cells.octs_of.Given as goal

abbrev pub invariant-each : goal.invariant-each
invariant-each l = l.octs.items ≡ octs_of (take l.cell-index l.cells)
