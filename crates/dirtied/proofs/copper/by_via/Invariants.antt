use Rattle.fill_rules.specs.Edits.{IsViaDirtying}
use Rattle.dirtied.proofs.Flags.{AreSoFar}
use Rattle.dirtied.proofs.copper.by_via.Given as goal

abbrev pub invariant-each : goal.invariant-each
invariant-each l = AreSoFar (λ k. IsViaDirtying l.board.board k l.via) l.rank l.flags.items
