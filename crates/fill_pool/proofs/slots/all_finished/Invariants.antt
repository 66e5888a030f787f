use Rattle.std.proofs.Common.{◌≡◌, ℕ, get_or, take}
use Rattle.std.specs.List.{All}
use Rattle.pool_rules.specs.declared.Slot.TheVariants.{Finished}
use Rattle.fill_pool.proofs.slots.all_finished.Given as goal

abbrev pub invariant-each : goal.invariant-each
invariant-each l = All (λ (j : ℕ). get_or l.slots j Finished ≡ Finished) (take l.j-index l.row)
