use Rattle.sheet_trace.specs.Edges.{edges_in}
use Rattle.sheet_trace.proofs.Outlines.{slits_begun, slits_step, slits_end}
use Rattle.sheet_trace.proofs.drawn_rings.slits.Goals as goal

pub each-init : goal.each-init
each-init c = slits_begun _ _ c.new-slits.ensures.items

pub each-preserved : goal.each-preserved
each-preserved c = slits_step (edges_in c.args.edges.now) c.args.loops.now c.each.drawn-index c.drawn-item.result c.drawn-item.result _ _ _ c.each-test.true c.drawn-item.is c.in_ok-put_slit_of.ensures c.each.invariant

pub returns : goal.returns
returns c = slits_end (edges_in c.args.edges.now) c.args.loops.now c.each.drawn-index _ _ c.each-test.false c.each.invariant
