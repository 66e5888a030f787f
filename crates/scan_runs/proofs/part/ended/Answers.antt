use Rattle.std.proofs.Common.{arith}
use Rattle.std.proofs.lemmas.Int.{ints}
use Rattle.scan_runs.proofs.Small.{IsOct-IsSmall}
use Rattle.scan_runs.proofs.PartLaws.{small_along, right_as}
use Rattle.scan_runs.proofs.part.ended.Goals as goal

pub returns-in-Some : goal.returns-in-Some
returns-in-Some c =
    let o = c.args.o.now in
    let s = IsOct-IsSmall o c.x1-x1.ensures.oct in
    small_along o c.args.top c.args.more c.args.from c.in-Some.to c.x1-x1.ensures.oct c.requires.high c.requires.low c.requires.from
    (right_as o.x1 o.s1 o.d1 c.args.top _ _ _ _ c.args.more c.in-Some.to c.in-Some.ensures.some (omega (arith, ints, s.x1, c.x1-x1.ensures.value)) (omega (arith, ints, s.s1, c.s1-s1.ensures.value)) (omega (arith, ints, s.d1, c.d1-d1.ensures.value)) (omega (arith, ints)))
