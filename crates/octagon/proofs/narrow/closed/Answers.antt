use Rattle.std.proofs.Common.{rules, w64, FitsSigned}
use Rattle.octagon.specs.contracts.eight.Eight.{the_view}
use Rattle.octagon.proofs.Steps.{closed_of, small_negated}
use Rattle.octagon.proofs.narrow.closed.Goals as goal

pub returns : goal.returns
returns c =
    let f1 : FitsSigned w64 c.sum_low.result = search rules in
    let f2 : FitsSigned w64 c.sum_high.result = search rules in
    let f3 : FitsSigned w64 c.sum_low-2.result = search rules in
    let f4 : FitsSigned w64 c.sum_high-2.result = search rules in
    rw (← c.t.view_is)
    (closed_of (the_view c.t.inside) c.sum_low.result c.sum_high.result c.sum_low-2.result c.sum_high-2.result (rw (← c.t.view_is) at c.requires)
    f1 f2 f3 f4 c.sum_low.ensures c.sum_high.ensures c.sum_low-2.ensures c.sum_high-2.ensures)

pub sum_low-requires-2-clause-b : goal.sum_low-requires-2-clause-b
sum_low-requires-2-clause-b c = let m = rw (← c.t.view_is) at c.requires in small_negated c.t.inside.y1 m.y1

pub sum_high-requires-2-clause-b : goal.sum_high-requires-2-clause-b
sum_high-requires-2-clause-b c = let m = rw (← c.t.view_is) at c.requires in small_negated c.t.inside.y0 m.y0
