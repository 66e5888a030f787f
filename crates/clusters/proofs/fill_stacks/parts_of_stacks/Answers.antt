use Rattle.clusters.proofs.StackParts.{parts_more}
use Rattle.clusters.proofs.fill_stacks.parts_of_stacks.Goals as goal

pub each-preserved : goal.each-preserved
each-preserved c =
    parts_more c.args.places.now c.args.parts.now c.each.firsts.items c.args.count c.each.j c.requires.one c.each-test.true (c.requires.within c.each.j 0 c.each-test.true)
    c.each.invariant
