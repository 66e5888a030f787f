use Rattle.dirtied.proofs.Flags.{one_more}
use Rattle.dirtied.proofs.copper.by_track.Goals as goal

pub each-preserved : goal.each-preserved
each-preserved c = one_more _ _ _ _ c.track_dirties.result c.each.invariant c.in_ok-push.ensures.items c.track_dirties.ensures
