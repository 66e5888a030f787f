use Rattle.std.proofs.Common.{take}
use Rattle.scan_runs.specs.Inner.Grouping.{AreAdvanced}
use Rattle.scan_runs.proofs.settle.advanced.Given as goal

abbrev pub invariant-runs : goal.invariant-runs
invariant-runs l = AreAdvanced (take l.run-index l.runs) l.all.items
