use Rattle.refill_walk.proofs.Octs.{AreSameUpTo}
use Rattle.refill_walk.proofs.same.are_same.Given as goal

abbrev pub invariant-each : goal.invariant-each
invariant-each l = AreSameUpTo l.i l.one l.other
