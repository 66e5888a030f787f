use Rattle.std.proofs.Common.{take}
use Rattle.scan_runs.specs.Inner.Grouping.{AreSteps}
use Rattle.scan_runs.proofs.step.steps_to.Given as goal

abbrev pub invariant-runs : goal.invariant-runs
invariant-runs l = AreSteps l.more (take l.i l.upper) (take l.i l.lower) l.steps.items
