use Rattle.zone_fill.proofs.Entering.{met}
use Rattle.zone_fill.proofs.live.is_met.Goals as goal

pub returns : goal.returns
returns c =
    let k = met c.args.blots.now c.args.oct.now in
    (λ t. k.0 (c.meets_some.ensures.0 t), λ h. c.meets_some.ensures.1 (k.1 h))
