use Rattle.islands.specs.Inner.Marks.{AreMarks}
use Rattle.islands.proofs.held.marked.Given as goal

abbrev pub invariant-each : goal.invariant-each
invariant-each l = AreMarks l.octs l.labels l.anchors l.live l.k l.marks.items
