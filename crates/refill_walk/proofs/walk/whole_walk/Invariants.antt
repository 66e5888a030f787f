use Rattle.std.proofs.Common.{◌≡◌, ◌+◌, length}
use Rattle.refill_walk.specs.Inner.Walk.{IsWalkOf}
use Rattle.refill_walk.proofs.walk.whole_walk.Given as goal

abbrev pub invariant-each : goal.invariant-each
invariant-each g l = record {
  walked : IsWalkOf l.it l.walk;
  so_far : length l.walk.fills.items ≡ l._rank;
  steps : l.steps ≡ l.initial.steps + l.walk.count;
}
