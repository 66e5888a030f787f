use Rattle.stacks.proofs.Plain.{reach_is, reach_small}
use Rattle.stacks.proofs.reach.reach_of.Goals as goal

pub returns-clause-reach : goal.returns-clause-reach
returns-clause-reach c =
    reach_is c.args.oct.now _ _ _ _ _ _ _ _ c.x0.ensures.oct c.x0.ensures.value c.x1.ensures.value c.y0.ensures.value c.y1.ensures.value
    c.s0.ensures.value c.s1.ensures.value c.d0.ensures.value c.d1.ensures.value

pub returns-clause-small : goal.returns-clause-small
returns-clause-small c =
    reach_small c.args.oct.now _ c.x0.ensures.oct
    (reach_is c.args.oct.now _ _ _ _ _ _ _ _ c.x0.ensures.oct c.x0.ensures.value c.x1.ensures.value c.y0.ensures.value c.y1.ensures.value
    c.s0.ensures.value c.s1.ensures.value c.d0.ensures.value c.d1.ensures.value)
