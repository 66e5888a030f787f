use Rattle.islands.proofs.Crossings.{parity_more, parity_end}
use Rattle.islands.proofs.edges.is_odd.Goals as goal

pub each-preserved : goal.each-preserved
each-preserved c = parity_more c.args.edges.now c.args.at c.each.edge-index _ _ _ c.each-test.true c.crosses.ensures (c.flipped-odd.ensures _ c.each.invariant)

pub returns : goal.returns
returns c = parity_end c.args.edges.now c.args.at c.each.edge-index _ c.each-test.false c.each.invariant
