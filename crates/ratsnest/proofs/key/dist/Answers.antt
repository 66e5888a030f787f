use Rattle.std.proofs.Common.{◌∙◌}
use Rattle.ratsnest.specs.Ratsnest.{dist_sq}
use Rattle.ratsnest.proofs.Wide.{dist_move, read64}
use Rattle.ratsnest.proofs.key.dist.Goals as goal

pub returns : goal.returns
returns c = c.natural.ensures ∙ read64 c.apart.result (dist_sq c.args.anchors.now c.args.e) (record { sfits = c.apart.type_inv })
    (dist_move c.args.anchors.now c.args.e c.anchor_at-a.result c.anchor_at-b.result c.apart.result c.anchor_at-a.ensures c.anchor_at-b.ensures
    (c.requires.near c.args.e.first _ c.requires.first) (c.requires.near c.args.e.second _ c.requires.second) c.apart.ensures.is)
