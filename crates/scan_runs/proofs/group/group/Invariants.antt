use Rattle.std.proofs.Common.{take}
use Rattle.scan_runs.specs.Strips.{rows_of_strips}
use Rattle.scan_runs.specs.Inner.Grouping.{AreGrouped}
use Rattle.scan_runs.proofs.group.group.Given as goal

abbrev pub invariant-strips : goal.invariant-strips
invariant-strips l = AreGrouped (rows_of_strips (take l.strip-index l.strips)) l.bands.items
