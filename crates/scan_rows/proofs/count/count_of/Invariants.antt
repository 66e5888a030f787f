use Rattle.std.proofs.Common.{take}
use Rattle.scan_rows.proofs.Closed.{IsCounted}
use Rattle.scan_rows.proofs.count.count_of.Given as goal

abbrev pub invariant-octs : goal.invariant-octs
invariant-octs l = IsCounted (take l.oct-index l.octs) l.total
