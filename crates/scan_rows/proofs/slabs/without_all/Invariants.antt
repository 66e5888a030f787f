use Rattle.scan_rows.specs.Inner.Slabs.{IsUnderWay}
use Rattle.scan_rows.proofs.slabs.without_all.Given as goal

abbrev pub invariant-marks : goal.invariant-marks
invariant-marks l = IsUnderWay l.others l.octs l.done.items l.left.items l.later.items
