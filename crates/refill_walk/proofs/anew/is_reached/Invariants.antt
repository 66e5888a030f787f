use Rattle.std.proofs.Common.{◌≡◌, true}
use Rattle.fill_rules.specs.Reach.{IsReaching}
use Rattle.refill_laws.specs.Walked.{is_set}
use Rattle.refill_walk.proofs.Again.{NoneBefore}
use Rattle.refill_walk.proofs.anew.is_reached.Given as goal

abbrev pub invariant-each : goal.invariant-each
invariant-each l = NoneBefore (λ m. IsReaching l.board.board m l.rank × (is_set l.changed m ≡ true)) l.upper
