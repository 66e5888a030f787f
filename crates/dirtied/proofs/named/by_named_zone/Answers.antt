use Rattle.dirtied.proofs.Flags.{ok_so}
use Rattle.dirtied.proofs.Arms.{some_zone, no_zone}
use Rattle.dirtied.proofs.named.by_named_zone.Goals as goal

pub returns-in-Some : goal.returns-in-Some
returns-in-Some c = ok_so c.by_zone.result _ _ (λ v f. some_zone c.args.old.now.board c.args.new.now.board c.args.zone c.in-Some.zone v.items c.in-Some.is f) c.by_zone.ensures

pub returns-in-None : goal.returns-in-None
returns-in-None c = ok_so c.no_flags.result _ _ (λ v f. no_zone c.args.old.now.board c.args.new.now.board c.args.zone v.items c.in-None.is f) c.no_flags.ensures
