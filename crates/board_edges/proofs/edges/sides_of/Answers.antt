use Rattle.std.proofs.Common.{◌∙◌, ◌++◌, ◌<◌, ap, sym, get_or, length, arith, pos}
use Rattle.grid_num.specs.declared.Point.{Point}
use Rattle.board_language.specs.Edges.{sides_to, sides_of}
use Rattle.board_text.proofs.Walks.{get_same}
use Rattle.board_edges.proofs.Sides.{side_more, side_none, all_sides, no_sides, some_corner}
use Rattle.board_edges.proofs.edges.sides_of.Goals as goal

pub returns-then-is_empty : goal.returns-then-is_empty
returns-then-is_empty c = c.new-sides.ensures.items ∙ no_sides c.args.corners.now (sym c.is_empty.ensures ∙ c.if-is_empty.true)

pub each-init : goal.each-init
each-init c =
    let l : 0 < length c.args.corners.now = some_corner c.args.corners.now (sym c.is_empty.ensures ∙ c.if-is_empty.false) in
    let z : Point = get_or c.args.corners.now 0 (record { x = pos 0; y = pos 0 }) in
    ap (λ ss. ss ++ sides_to z c.args.corners.now) c.new-sides.ensures.items
    ∙ all_sides c.args.corners.now l z (get_same c.args.corners.now 0 (record { x = pos 0; y = pos 0 }) z l)

pub each-preserved : goal.each-preserved
each-preserved c =
    rw (c.in_ok-push.ensures.items, c.straight.ensures)
    (side_more _ c.args.corners.now c.each.i _ _ c.each.sides.items (sides_of c.args.corners.now) c.each-test.true (λ d. get_same c.args.corners.now c.each.i _ d c.each-test.true) c.corner_behind.ensures c.each.invariant)

pub returns : goal.returns
returns c = side_none _ c.args.corners.now c.each.i c.each.sides.items (sides_of c.args.corners.now) (omega (arith, c.each-test.false)) c.each.invariant
