use Rattle.refill.proofs.Flagged.{AreFlaggedBelow}
use Rattle.refill.proofs.flags.flagged_tasks.Given as goal

abbrev pub invariant-each : goal.invariant-each
invariant-each l = AreFlaggedBelow l.board.board l.flags l.rank l.flagged.items
