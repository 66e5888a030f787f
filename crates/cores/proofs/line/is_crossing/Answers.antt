use Rattle.cores.proofs.Plain.{cross_read}
use Rattle.cores.proofs.LineTests.{crossing_from}
use Rattle.cores.proofs.line.is_crossing.Goals as goal

pub returns : goal.returns
returns c =
    let g = c.ranges in
    crossing_from _ c.args.wx c.args.wy c.args.vx c.args.vy c.args.yx c.args.yy _ _ _
    (cross_read _ _ _ _ _ g.vx g.vy g.yx g.yy c.cross_product-lines.ensures.range c.cross_product-lines.ensures.value)
    (cross_read _ _ _ _ _ g.yx g.yy g.wx g.wy c.cross_product-first.ensures.range c.cross_product-first.ensures.value)
    (cross_read _ _ _ _ _ g.vx g.vy g.wx g.wy c.cross_product-second.ensures.range c.cross_product-second.ensures.value)
    c.is_crossing_by.ensures
