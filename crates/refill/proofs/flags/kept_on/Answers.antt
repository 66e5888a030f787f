use Rattle.dirtied.proofs.Flags.{one_more}
use Rattle.refill.proofs.flags.kept_on.Goals as goal

pub each-preserved : goal.each-preserved
each-preserved c = one_more _ _ _ _ c.is_kept_on.result c.each.invariant c.in_ok-push.ensures.items c.is_kept_on.ensures
