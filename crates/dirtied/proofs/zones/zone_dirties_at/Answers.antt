use Rattle.std.proofs.Common.{subst}
use Rattle.std.specs.Prelude.{◌↔◌, IsTrue}
use Rattle.dirty_rules.specs.Dirty.{IsZoneDirtying}
use Rattle.dirtied.proofs.Flags.{task_is}
use Rattle.dirtied.proofs.zones.zone_dirties_at.Goals as goal

pub returns : goal.returns
returns c =
    subst (λ t. IsTrue c.zone_dirties.result ↔ IsZoneDirtying c.args.old.now.board c.args.new.now.board c.args.zone t)
    (task_is c.args.new.now.board c.args.tasks.now c.args.rank _ c.requires.tasks c.requires.rank) c.zone_dirties.ensures
