use Rattle.std.proofs.Common.{◌≡◌}
use Rattle.stacks.proofs.piles.grow.Given as goal

abbrev pub invariant-tries : goal.invariant-tries
invariant-tries l = l.stacks.items ≡ l.initial.stacks.items
