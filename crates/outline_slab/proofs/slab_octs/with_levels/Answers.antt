use Rattle.std.proofs.Common.{sym}
use Rattle.outline_slab.specs.Cuts.{IsSoundEdge}
use Rattle.outline_slab.proofs.Sides.{read_fact, taken_all}
use Rattle.outline_slab.proofs.Octs.{levels_more}
use Rattle.outline_slab.proofs.slab_octs.with_levels.Goals as goal

pub with_level-requires-clause-sound : goal.with_level-requires-clause-sound
with_level-requires-clause-sound c = read_fact IsSoundEdge c.args.sides.now c.each.i _ c.each-test.true c.requires.sound

pub each-preserved : goal.each-preserved
each-preserved c = record {
  points = λ p. levels_more c.args.sides.now c.each.i _ c.args.octs.items c.each.octs.items c.in_ok-octs.octs.items p c.each-test.true (c.each.invariant.points p) (c.in_ok-octs.ensures.points p);
  kept = λ p a. c.in_ok-octs.ensures.kept p (c.each.invariant.kept p a);
  octs = c.in_ok-octs.ensures.octs;
}

pub returns-clause-points : goal.returns-clause-points
returns-clause-points c = λ p. rw (sym (taken_all c.args.sides.now c.each.i c.each-test.false)) (c.each.invariant.points p)
