use Rattle.islands.proofs.Marking.{AreRead}
use Rattle.islands.proofs.held.kept.Given as goal

abbrev pub invariant-each : goal.invariant-each
invariant-each l = AreRead l.labels l.marks.items l.label-index l.kept.items
