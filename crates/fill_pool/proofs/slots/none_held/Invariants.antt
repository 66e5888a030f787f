use Rattle.std.proofs.Common.{◌≡◌, ℕ, ◌<◌, get_or}
use Rattle.pool_rules.specs.declared.Slot.TheVariants.{Held, Finished}
use Rattle.fill_pool.proofs.slots.none_held.Given as goal

abbrev pub invariant-each : goal.invariant-each
invariant-each l = (j v : ℕ) → j < l.i → get_or l.slots j Finished ≡ Held v → ⊥
