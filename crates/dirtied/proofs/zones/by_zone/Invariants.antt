use Rattle.fill_rules.specs.Tasks.{task_at}
use Rattle.dirty_rules.specs.Dirty.{IsZoneDirtying}
use Rattle.dirtied.proofs.Flags.{AreSoFar}
use Rattle.dirtied.proofs.zones.by_zone.Given as goal

abbrev pub invariant-each : goal.invariant-each
invariant-each l = AreSoFar (λ k. IsZoneDirtying l.old.board l.new.board l.zone (task_at l.new.board k)) l.rank l.flags.items
