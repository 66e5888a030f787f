use Rattle.std.proofs.Common.{◌∙◌, sym, ap, get_or, pos}
use Rattle.grid_num.specs.declared.Point.{Point}
use Rattle.sheet_trace.proofs.Rounds.{less_told_here, less_step, less_end}
use Rattle.sheet_trace.proofs.contour.is_less_from.Goals as goal

origin : Point
origin = record { x = pos 0; y = pos 0 }

pub returns-then-not-is_same : goal.returns-then-not-is_same
unfolding origin
returns-then-not-is_same c =
    let cs = c.args.corners.now in
    less_told_here cs c.args.one c.args.other c.each.step origin origin _ _ _ _ c.requires.one c.requires.other c.each-test.true (ap (λ z. get_or cs z origin) c.place_around.ensures.value)
    (ap (λ z. get_or cs z origin) c.place_around-in-each.ensures.value) (sym c.is_same.ensures ∙ c.if-not-is_same.true) c.is_before.ensures c.each.invariant

pub each-preserved : goal.each-preserved
unfolding origin
each-preserved c =
    let cs = c.args.corners.now in
    less_step cs c.args.one c.args.other c.each.step origin origin _ _ _ c.requires.one c.requires.other c.each-test.true (ap (λ z. get_or cs z origin) c.place_around.ensures.value)
    (ap (λ z. get_or cs z origin) c.place_around-in-each.ensures.value) (sym c.is_same.ensures ∙ c.if-not-is_same.false) c.each.invariant

pub returns : goal.returns
returns c = less_end c.args.corners.now c.args.one c.args.other c.each.step _ c.requires.one c.requires.other c.each-test.false c.each.invariant
