use Rattle.fill_rules.specs.Edits.{IsTrackDirtying}
use Rattle.dirtied.proofs.Flags.{AreSoFar}
use Rattle.dirtied.proofs.copper.by_track.Given as goal

abbrev pub invariant-each : goal.invariant-each
invariant-each l = AreSoFar (λ k. IsTrackDirtying l.board.board k l.track) l.rank l.flags.items
