use Rattle.dirtied.proofs.Flags.{AreSoFar}
use Rattle.refill.specs.Inner.Flags.{IsKeptOn}
use Rattle.refill.proofs.flags.kept_on.Given as goal

abbrev pub invariant-each : goal.invariant-each
invariant-each l = AreSoFar (IsKeptOn l.board.board l.flagged l.direct) l.rank l.flags.items
