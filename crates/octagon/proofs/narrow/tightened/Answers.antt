use Rattle.std.proofs.Common.{rules, w64, FitsSigned}
use Rattle.octagon.specs.contracts.eight.Eight.{the_view}
use Rattle.plane.proofs.Narrow.{IsSmall-narrowed}
use Rattle.octagon.proofs.Steps.{none_narrow, copied, branch_le, branch_lt}
use Rattle.octagon.proofs.narrow.tightened.Goals as goal

pub returns-then-t-clause-none : goal.returns-then-t-clause-none
returns-then-t-clause-none c = λ e.
    let f : FitsSigned w64 c.t.inside.x0 = search rules in
    let g : FitsSigned w64 c.t.inside.x1 = search rules in
    none_narrow c.args.b.now c.narrowed-t.result c.narrowed-t.ensures (branch_lt c.narrowed-t.result (the_view c.t.inside) c.t.view_is f g c.if-t.true)

pub closed-r-requires : goal.closed-r-requires
closed-r-requires c =
    let f : FitsSigned w64 c.t.inside.x0 = search rules in
    let g : FitsSigned w64 c.t.inside.x1 = search rules in
    IsSmall-narrowed c.args.b.now c.narrowed-t.result c.requires c.narrowed-t.ensures (c.ordered.ensures.0 c.if-not-ordered.false)
    (branch_le c.narrowed-t.result (the_view c.t.inside) c.t.view_is f g c.if-t.false)

pub returns-clause-some : goal.returns-clause-some
returns-clause-some c =
    let f : FitsSigned w64 c.t.inside.x0 = search rules in
    let g : FitsSigned w64 c.t.inside.x1 = search rules in
    copied c.args.b.now c.narrowed-t.result (the_view c.r.inside) c.requires c.narrowed-t.ensures (c.ordered.ensures.0 c.if-not-ordered.false)
    (branch_le c.narrowed-t.result (the_view c.t.inside) c.t.view_is f g c.if-t.false) (rw (← c.r.view_is) at c.closed-r.ensures)

pub invariant_of-result : goal.invariant_of-result
invariant_of-result c =
    let f : FitsSigned w64 c.t.inside.x0 = search rules in
    let g : FitsSigned w64 c.t.inside.x1 = search rules in
    (copied c.args.b.now c.narrowed-t.result (the_view c.r.inside) c.requires c.narrowed-t.ensures (c.ordered.ensures.0 c.if-not-ordered.false)
    (branch_le c.narrowed-t.result (the_view c.t.inside) c.t.view_is f g c.if-t.false) (rw (← c.r.view_is) at c.closed-r.ensures)).oct
