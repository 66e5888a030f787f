use Rattle.std.proofs.Common.{take}
use Rattle.grid_sets.specs.Bands.{AreMovedAlike}
use Rattle.scan_runs.proofs.step.alike.Given as goal

abbrev pub invariant-runs : goal.invariant-runs
invariant-runs l = AreMovedAlike (take l.i l.runs) (take l.i l.others)
