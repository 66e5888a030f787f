use Rattle.outline_slab.proofs.Sides.{chain_more, chain_all}
use Rattle.outline_slab.proofs.inside.with_sides.Goals as goal

pub each-preserved : goal.each-preserved
each-preserved c = chain_more c.args.corners.now c.each.i c.args.sides.items c.each.sides.items c.push.new.self.items c.edge_at.result c.each-test.true c.each.invariant c.edge_at.ensures c.in_ok-push.ensures.items

pub returns : goal.returns
returns c = chain_all c.args.corners.now c.each.i c.args.sides.items c.each.sides.items c.each-test.false c.each.invariant
