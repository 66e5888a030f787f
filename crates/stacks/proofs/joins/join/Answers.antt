use Rattle.stacks.proofs.Unions.{joined}
use Rattle.stacks.proofs.joins.join.Goals as goal

pub returns-clause-hull : goal.returns-clause-hull
returns-clause-hull c =
    (joined c.args.p.now c.args.q.now _ _ _ c.octagon_of.result c.reach_of-first.ensures.oct c.reach_of-second.ensures.oct c.reach_of-first.ensures.reach c.reach_of-second.ensures.reach
    c.farther-both.ensures.far (c.fits.ensures (cc)) c.octagon_of.ensures).0

pub returns-clause-points : goal.returns-clause-points
returns-clause-points c =
    (joined c.args.p.now c.args.q.now _ _ _ c.octagon_of.result c.reach_of-first.ensures.oct c.reach_of-second.ensures.oct c.reach_of-first.ensures.reach c.reach_of-second.ensures.reach
    c.farther-both.ensures.far (c.fits.ensures (cc)) c.octagon_of.ensures).1
