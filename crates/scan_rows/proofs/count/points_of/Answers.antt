use Rattle.scan_rows.proofs.Closed.{points_fit, points_are}
use Rattle.scan_rows.proofs.count.points_of.Goals as goal

pub overflow_sub-result : goal.overflow_sub-result
overflow_sub-result c =
    points_fit c.args.oct.now c.width-columns.result c.height-rows.result c.top_left.result c.top_right.result c.bottom_right.result c.bottom_left.result
    c.triangle.result c.triangle-2.result c.triangle-3.result c.triangle-4.result c.width-columns.ensures.oct
    c.width-columns.ensures.value c.height-rows.ensures.value c.top_left.ensures.value c.top_right.ensures.value c.bottom_right.ensures.value c.bottom_left.ensures.value
    c.triangle.ensures.value c.triangle-2.ensures.value c.triangle-3.ensures.value c.triangle-4.ensures.value

pub returns-clause-count : goal.returns-clause-count
returns-clause-count c =
    points_are c.args.oct.now c.width-columns.result c.height-rows.result c.top_left.result c.top_right.result c.bottom_right.result c.bottom_left.result
    c.triangle.result c.triangle-2.result c.triangle-3.result c.triangle-4.result c.width-columns.ensures.oct
    c.width-columns.ensures.value c.height-rows.ensures.value c.top_left.ensures.value c.top_right.ensures.value c.bottom_right.ensures.value c.bottom_left.ensures.value
    c.triangle.ensures.value c.triangle-2.ensures.value c.triangle-3.ensures.value c.triangle-4.ensures.value
