use Rattle.std.proofs.Common.{take}
use Rattle.scan_rows.specs.Sets.{IsJoined}
use Rattle.scan_rows.proofs.apart.joined.Given as goal

abbrev pub invariant-others : goal.invariant-others
invariant-others l = IsJoined (take l.other-index l.others) l.octs l.all.items
