use Rattle.std.proofs.Common.{◌∙◌}
use Rattle.hulls.specs.Cells.{points_round_all}
use Rattle.copper_shape.proofs.CellLists.{cells_near, cells_some, near_reach, hull_room, code_hull}
use Rattle.copper_shape.proofs.cells.hull.Goals as goal

pub of_points-around-requires-clause-some : goal.of_points-around-requires-clause-some
of_points-around-requires-clause-some c = rw (c.as_slice.ensures.value, c.in_ok-cells.ensures) (cells_some c.args.n c.args.corners.now c.requires.some)

pub of_points-around-requires-clause-reach : goal.of_points-around-requires-clause-reach
of_points-around-requires-clause-reach c =
    rw (c.as_slice.ensures.value, c.in_ok-cells.ensures)
    (near_reach (points_round_all c.args.n c.args.corners.now) (cells_near c.args.n 500000000 c.args.corners.now c.requires.scale.0 c.requires.places))

pub sum-requires : goal.sum-requires
sum-requires c =
    hull_room c.args.n c.args.corners.now c.args.radius c.as_slice.result.now c.of_points-around.result c.div_ceil.result c.ball.result
    c.requires.some c.requires.scale.0 c.requires.places c.requires.radius (c.as_slice.ensures.value ∙ c.in_ok-cells.ensures)
    c.of_points-around.ensures.holds c.of_points-around.ensures.least c.of_points-around.ensures.oct c.div_ceil.ensures c.ball.ensures

pub returns : goal.returns
returns c =
    c.sum.ensures.value
    ∙ code_hull c.args.n c.args.corners.now c.args.radius c.as_slice.result.now c.of_points-around.result c.div_ceil.result c.ball.result
    c.requires.some (c.as_slice.ensures.value ∙ c.in_ok-cells.ensures)
    c.of_points-around.ensures.holds c.of_points-around.ensures.least c.of_points-around.ensures.oct c.div_ceil.ensures c.ball.ensures
