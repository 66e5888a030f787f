use Rattle.std.proofs.Common.{refl}
use Rattle.knockouts.proofs.Near.{frames_near}
use Rattle.dirtied.proofs.beside.is_near.Goals as goal

pub returns : goal.returns
returns c =
    frames_near c.args.need c.args.frame.now c.args.hull.now c.args.frame.now c.args.hull.now c.apart.result c.requires.least c.x0.ensures.oct c.x0-2.ensures.oct refl refl
    c.apart.ensures
