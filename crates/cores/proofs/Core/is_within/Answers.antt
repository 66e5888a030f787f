use Rattle.cores.proofs.Cases.{decides}
use Rattle.cores.proofs.Core.is_within.Goals as goal

pub returns : goal.returns
returns c =
    decides c.are_close.result c.args.reach c.square.result _ _ _ _ c.square.ensures.value c.kind-first.ensures.value c.kind-second.ensures.value
    c.kind-first.ensures.whole c.kind-second.ensures.whole c.are_close.ensures
