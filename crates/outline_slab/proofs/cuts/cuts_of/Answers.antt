use Rattle.std.proofs.Common.{take}
use Rattle.outline_slab.specs.Cuts.{all_edges, IsSoundEdge, IsInRows}
use Rattle.outline_slab.proofs.Sides.{read_fact, taken_more, no_side}
use Rattle.outline_slab.proofs.cuts.cuts_of.Goals as goal

pub with_cuts-requires-clause-sound : goal.with_cuts-requires-clause-sound
with_cuts-requires-clause-sound c = read_fact IsSoundEdge c.args.sides.now c.each.i _ c.each-test.true c.requires.sound

pub with_cuts-requires-clause-ends : goal.with_cuts-requires-clause-ends
with_cuts-requires-clause-ends c = read_fact (IsInRows c.args.rows.now) c.args.sides.now c.each.i _ c.each-test.true c.requires.rows.every

pub each-preserved : goal.each-preserved
each-preserved c = rw (taken_more c.args.sides.now c.each.i no_side c.each-test.true) (c.in_ok-cuts.ensures (take c.each.i (all_edges c.args.sides.now)) c.each.invariant)
