use Rattle.std.proofs.Common.{◌≡◌, ℕ, ◌<◌, get_or}
use Rattle.pool_rules.specs.declared.Slot.TheVariants.{Finished}
use Rattle.fill_pool.proofs.slots.all_done.Given as goal

abbrev pub invariant-each : goal.invariant-each
invariant-each l = (j : ℕ) → j < l.i → get_or l.slots j Finished ≡ Finished
