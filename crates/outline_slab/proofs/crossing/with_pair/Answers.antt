use Rattle.outline_slab.proofs.LeastPair.{better_found}
use Rattle.outline_slab.proofs.crossing.with_pair.Goals as goal

pub returns-then-crosses-clause-better : goal.returns-then-crosses-clause-better
returns-then-crosses-clause-better c =
    better_found c.args.corners.now c.args.best c.args.i c.args.j c.requires.order c.requires.within (c.is_before.ensures.0 c.if-is_before.true) (c.crosses.ensures.0 c.if-crosses.true)
