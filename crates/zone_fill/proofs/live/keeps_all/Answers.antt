use Rattle.zone_fill.proofs.Entering.{keeping}
use Rattle.zone_fill.proofs.live.keeps_all.Goals as goal

pub returns : goal.returns
returns c =
    let k = keeping c.args.needs.now c.args.oct.now in
    (λ t. k.0 (c.keeps_each.ensures.0 t), λ h. c.keeps_each.ensures.1 (k.1 h))
