use Rattle.std.proofs.Common.{◌≡◌, length}
use Rattle.fill_pool.proofs.copies.no_fills.Given as goal

abbrev pub invariant-each : goal.invariant-each
invariant-each l = length l.slots.items ≡ l._i
