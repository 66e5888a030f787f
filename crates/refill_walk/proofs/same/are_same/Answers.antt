use Rattle.std.proofs.Common.{refl, arith}
use Rattle.refill_walk.proofs.Octs.{one_more, same_at, all_same}
use Rattle.refill_walk.proofs.same.are_same.Goals as goal

pub each-init : goal.each-init
each-init c = λ m d l. absurd (omega (arith, l))

pub each-preserved : goal.each-preserved
each-preserved c =
    one_more c.each.i c.args.one.now c.args.other.now c.each.invariant
    (same_at c.each.i c.args.one.now c.args.other.now c.index-one-i.result c.index-other-i.result c.each-test.true (omega (arith, c.if-one-other.false))
    c.index-one-i.is c.index-other-i.is (c.is_same.ensures.0 c.if-not-is_same.false))

pub returns : goal.returns
returns c = (
  λ e. all_same c.args.one.now c.args.other.now (omega (arith, c.if-one-other.false))
      (λ m d l. c.each.invariant m d (omega (arith, l, c.each-test.false))),
  λ e. refl,
)
