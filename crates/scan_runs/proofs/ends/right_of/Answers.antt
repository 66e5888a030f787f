use Rattle.std.proofs.Common.{arith}
use Rattle.std.proofs.lemmas.Int.{ints}
use Rattle.scan_runs.proofs.EndLaws.{right_still_for, right_left_for, right_right_for, none_right}
use Rattle.scan_runs.proofs.ends.right_of.Goals as goal

pub returns-then-is_least-clause-some : goal.returns-then-is_least-clause-some
returns-then-is_least-clause-some c =
    let h = c.is_least.ensures.yes c.if-is_least.true in
    right_still_for c.args.x1 c.args.s1 c.args.d1 c.args.top _ c.args.more (omega (arith, ints)) (record { low = omega (arith, ints); high = omega (arith, ints) }) (omega (arith, ints)) (omega (arith, ints))

pub returns-then-is_least-2-clause-some : goal.returns-then-is_least-2-clause-some
returns-then-is_least-2-clause-some c =
    let h = c.is_least-2.ensures.yes c.if-is_least-2.true in
    right_left_for c.args.x1 c.args.s1 c.args.d1 c.args.top _ c.args.more (omega (arith, ints)) (record { low = omega (arith, ints); high = omega (arith, ints) }) (omega (arith, ints)) (omega (arith, ints))

pub returns-then-is_least-3-clause-some : goal.returns-then-is_least-3-clause-some
returns-then-is_least-3-clause-some c =
    let h = c.is_least-3.ensures.yes c.if-is_least-3.true in
    right_right_for c.args.x1 c.args.s1 c.args.d1 c.args.top _ c.args.more (omega (arith, ints)) (record { low = omega (arith, ints); high = omega (arith, ints) }) (omega (arith, ints)) (omega (arith, ints))

pub returns-clause-none : goal.returns-clause-none
returns-clause-none c = λ n.
    none_right c.args.x1 c.args.s1 c.args.d1 c.args.top c.args.more _ _ _ _ _ (c.is_least.ensures.no c.if-is_least.false) (c.is_least-2.ensures.no c.if-is_least-2.false) (c.is_least-3.ensures.no c.if-is_least-3.false)
    (omega (arith, ints)) (omega (arith, ints)) (omega (arith, ints)) (omega (arith, ints)) (omega (arith, ints))
