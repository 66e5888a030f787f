use Rattle.std.proofs.Common.{arith}
use Rattle.std.proofs.lemmas.Int.{ints}
use Rattle.scan_runs.proofs.EndLaws.{left_still_for, left_left_for, left_right_for, none_left}
use Rattle.scan_runs.proofs.ends.left_of.Goals as goal

pub returns-then-is_greatest-clause-some : goal.returns-then-is_greatest-clause-some
returns-then-is_greatest-clause-some c =
    let h = c.is_greatest.ensures.yes c.if-is_greatest.true in
    left_still_for c.args.x0 c.args.s0 c.args.d0 c.args.top _ c.args.more (omega (arith, ints)) (record { low = omega (arith, ints); high = omega (arith, ints) }) (omega (arith, ints)) (omega (arith, ints))

pub returns-then-is_greatest-2-clause-some : goal.returns-then-is_greatest-2-clause-some
returns-then-is_greatest-2-clause-some c =
    let h = c.is_greatest-2.ensures.yes c.if-is_greatest-2.true in
    left_left_for c.args.x0 c.args.s0 c.args.d0 c.args.top _ c.args.more (omega (arith, ints)) (record { low = omega (arith, ints); high = omega (arith, ints) }) (omega (arith, ints)) (omega (arith, ints))

pub returns-then-is_greatest-3-clause-some : goal.returns-then-is_greatest-3-clause-some
returns-then-is_greatest-3-clause-some c =
    let h = c.is_greatest-3.ensures.yes c.if-is_greatest-3.true in
    left_right_for c.args.x0 c.args.s0 c.args.d0 c.args.top _ c.args.more (omega (arith, ints)) (record { low = omega (arith, ints); high = omega (arith, ints) }) (omega (arith, ints)) (omega (arith, ints))

pub returns-clause-none : goal.returns-clause-none
returns-clause-none c = λ n.
    none_left c.args.x0 c.args.s0 c.args.d0 c.args.top c.args.more _ _ _ _ _ (c.is_greatest.ensures.no c.if-is_greatest.false) (c.is_greatest-2.ensures.no c.if-is_greatest-2.false) (c.is_greatest-3.ensures.no c.if-is_greatest-3.false)
    (omega (arith, ints)) (omega (arith, ints)) (omega (arith, ints)) (omega (arith, ints)) (omega (arith, ints))
