use Rattle.std.proofs.Common.{rules}
use Rattle.outline_slab.proofs.Chain.{edge_made}
use Rattle.outline_slab.proofs.side.edge_at.Goals as goal
use Rattle.outline_slab.proofs.side.edge_at.Goals.{then-i-corners, else-i-corners}

pub returns : goal.returns
returns c = edge_made c.args.corners.now c.args.i c.if-i-corners.next _ c.requires.within
    (elim c.if-i-corners.branch [ then-i-corners w ↦ search rules | else-i-corners w ↦ search rules ])
