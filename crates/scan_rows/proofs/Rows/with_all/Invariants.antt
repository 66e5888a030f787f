use Rattle.std.proofs.Common.{take}
use Rattle.scan_rows.proofs.Steps.{AreJoined}
use Rattle.scan_rows.proofs.Rows.with_all.Given as goal

abbrev pub invariant-sets : goal.invariant-sets
invariant-sets l = AreJoined (take l.other-index l.others) l.self l.all.items
