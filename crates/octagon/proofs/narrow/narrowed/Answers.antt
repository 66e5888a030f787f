use Rattle.std.proofs.Common.{rules, w64, FitsSigned}
use Rattle.octagon.specs.contracts.eight.Eight.{the_view}
use Rattle.octagon.proofs.Steps.{narrowed_of, fits_negated, small_negated}
use Rattle.octagon.proofs.narrow.narrowed.Goals as goal

pub overflow_sub-b-inside : goal.overflow_sub-b-inside
overflow_sub-b-inside c = let m = rw (← c.b.view_is) at c.requires in fits_negated c.b.inside.d1 m.d1

pub lower-requires-2-clause-d : goal.lower-requires-2-clause-d
lower-requires-2-clause-d c = let m = rw (← c.b.view_is) at c.requires in small_negated c.b.inside.d1 m.d1

pub overflow_sub-b-inside-2 : goal.overflow_sub-b-inside-2
overflow_sub-b-inside-2 c = let m = rw (← c.b.view_is) at c.requires in fits_negated c.b.inside.d0 m.d0

pub upper-requires-2-clause-d : goal.upper-requires-2-clause-d
upper-requires-2-clause-d c = let m = rw (← c.b.view_is) at c.requires in small_negated c.b.inside.d0 m.d0

pub returns : goal.returns
returns c =
    let f1 : FitsSigned w64 c.lower.result = search rules in
    let f2 : FitsSigned w64 c.upper.result = search rules in
    let f3 : FitsSigned w64 c.lower-2.result = search rules in
    let f4 : FitsSigned w64 c.upper-2.result = search rules in
    rw (← c.b.view_is)
    (narrowed_of (the_view c.b.inside) c.lower.result c.upper.result c.lower-2.result c.upper-2.result (rw (← c.b.view_is) at c.requires)
    f1 f2 f3 f4
    c.lower.ensures c.upper.ensures c.lower-2.ensures c.upper-2.ensures)
