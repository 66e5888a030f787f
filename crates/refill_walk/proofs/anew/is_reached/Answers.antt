use Rattle.std.proofs.Common.{refl, arith, false}
use Rattle.std.proofs.lemmas.Bool.{both_ways}
use Rattle.refill_walk.proofs.Again.{none_more, none_reach}
use Rattle.refill_walk.proofs.anew.is_reached.Goals as goal

pub each-init : goal.each-init
each-init c = λ m l p. absurd (omega (arith, l))

pub each-preserved : goal.each-preserved
each-preserved c = none_more _ c.each.upper c.is_spreading.result c.is_spreading.ensures c.if-is_spreading.false c.each.invariant

pub returns : goal.returns
returns c = (
  λ e. absurd (both_ways false refl e),
  λ r. absurd (none_reach c.args.board.now.board c.args.changed.now c.args.rank c.each.upper (omega (arith, c.each-test.false)) c.each.invariant r),
)
