use Rattle.std.proofs.Common.{arith}
use Rattle.std.proofs.lemmas.Int.{ints}
use Rattle.scan_runs.proofs.Small.{IsOct-IsSmall}
use Rattle.scan_runs.proofs.Lines.{below-IsAbsent}
use Rattle.scan_runs.proofs.PartLaws.{near_as}
use Rattle.scan_runs.proofs.part.part_of.Goals as goal

pub returns-then-bottom-y0 : goal.returns-then-bottom-y0
returns-then-bottom-y0 c = below-IsAbsent c.args.o.now c.args.top c.args.more (omega (arith, ints, c.y0-y0.ensures.oct))

pub returns-then-top-y0 : goal.returns-then-top-y0
returns-then-top-y0 c = omega (arith, ints, c.y0-y0.ensures.oct)

pub left_of-requires-clause-x : goal.left_of-requires-clause-x
left_of-requires-clause-x c = near_as c.x0-x0.result c.args.o.now.x0 (IsOct-IsSmall c.args.o.now c.x0-x0.ensures.oct).x0 c.x0-x0.ensures.value

pub left_of-requires-clause-s : goal.left_of-requires-clause-s
left_of-requires-clause-s c = near_as c.s0-s0.result c.args.o.now.s0 (IsOct-IsSmall c.args.o.now c.x0-x0.ensures.oct).s0 c.s0-s0.ensures.value

pub left_of-requires-clause-d : goal.left_of-requires-clause-d
left_of-requires-clause-d c = near_as c.d0-d0.result c.args.o.now.d0 (IsOct-IsSmall c.args.o.now c.x0-x0.ensures.oct).d0 c.d0-d0.ensures.value

pub ended-requires-clause-low : goal.ended-requires-clause-low
ended-requires-clause-low c = omega (arith, ints, c.y0-y0.ensures.oct)
