use Rattle.islands.proofs.Marking.{held_directly}
use Rattle.islands.proofs.held.is_held.Goals as goal

pub returns : goal.returns
returns c = held_directly c.args.anchors.now c.args.live.now c.args.oct.now _ _ _ c.is_met-met.ensures c.is_touched-touched.ensures c.either.ensures
