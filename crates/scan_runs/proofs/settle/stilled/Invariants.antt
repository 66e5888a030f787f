use Rattle.std.proofs.Common.{take}
use Rattle.scan_runs.specs.Inner.Grouping.{AreStilled}
use Rattle.scan_runs.proofs.settle.stilled.Given as goal

abbrev pub invariant-runs : goal.invariant-runs
invariant-runs l = AreStilled (take l.run-index l.runs) l.all.items
