use Rattle.std.proofs.Common.{ℕ, ◌<◌}
use Rattle.std.specs.Prelude.{map}
use Rattle.fill_pool.specs.Inner.Slots.{IsReadyRow}
use Rattle.fill_pool.proofs.slots.first_ready.Given as goal

abbrev pub invariant-each : goal.invariant-each
invariant-each l = (j : ℕ) → j < l.i → IsReadyRow (map (λ v. v.items) l.table) l.slots j → ⊥
