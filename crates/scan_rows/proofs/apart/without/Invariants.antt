use Rattle.std.proofs.Common.{take}
use Rattle.scan_rows.specs.Sets.{IsWithout}
use Rattle.scan_rows.proofs.apart.without.Given as goal

abbrev pub invariant-octs : goal.invariant-octs
invariant-octs l = IsWithout l.oct (take l.own-index l.octs) l.rest.items
