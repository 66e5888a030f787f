use Rattle.std.proofs.Common.{arith}
use Rattle.std.proofs.lemmas.Int.{ints}
use Rattle.scan_runs.proofs.Groups.{joins_by, joins_other}
use Rattle.scan_runs.proofs.group.joined.Goals as goal

pub returns-then-keeps_moves-clause-some : goal.returns-then-keeps_moves-clause-some
returns-then-keeps_moves-clause-some c =
    joins_by c.args.last.now c.args.strip.now c.in-Some.steps.items (omega (arith, ints, c.if-last-strip.false, c.requires.last.top, c.requires.last.bottom, c.requires.strip.top))
    (rw (c.deref.ensures.value, c.deref-2.ensures.value) at (rw c.in-Some.is at c.in_ok-steps_to.ensures.some))
    (rw c.deref-in-Some.ensures.value at (c.keeps_moves.ensures.yes c.if-keeps_moves.true))

pub returns-else-keeps_moves-clause-none : goal.returns-else-keeps_moves-clause-none
returns-else-keeps_moves-clause-none c = λ _.
    joins_other c.args.last.now c.args.strip.now c.in-Some.steps.items
    (rw (c.deref.ensures.value, c.deref-2.ensures.value) at (rw c.in-Some.is at c.in_ok-steps_to.ensures.some))
    (rw c.deref-in-Some.ensures.value at (c.keeps_moves.ensures.no c.if-keeps_moves.false))
