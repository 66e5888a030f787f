use Rattle.std.proofs.Common.{take}
use Rattle.scan_rows.specs.Sets.{IsWithoutAll}
use Rattle.scan_rows.proofs.apart.without_each.Given as goal

abbrev pub invariant-others : goal.invariant-others
invariant-others l = IsWithoutAll (take l.other-index l.others) l.octs l.rest.items
