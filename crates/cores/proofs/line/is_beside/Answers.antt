use Rattle.cores.proofs.Plain.{inner_read, cross_read}
use Rattle.cores.proofs.LineTests.{beside_from, long_square}
use Rattle.cores.proofs.line.is_beside.Goals as goal

pub is_beside_by-requires-clause-square : goal.is_beside_by-requires-clause-square
is_beside_by-requires-clause-square c =
    let g = c.ranges in
    long_square _ c.args.vx c.args.vy (inner_read _ _ _ _ _ g.vx g.vy g.vx g.vy c.inner_product-long.ensures.range c.inner_product-long.ensures.value)

pub returns : goal.returns
returns c =
    let g = c.ranges in
    beside_from _ c.args.a c.args.wx c.args.wy c.args.vx c.args.vy _ _ _ _
    (inner_read _ _ _ _ _ g.wx g.wy g.wx g.wy c.inner_product-far.ensures.range c.inner_product-far.ensures.value)
    (inner_read _ _ _ _ _ g.wx g.wy g.vx g.vy c.inner_product-along.ensures.range c.inner_product-along.ensures.value)
    (inner_read _ _ _ _ _ g.vx g.vy g.vx g.vy c.inner_product-long.ensures.range c.inner_product-long.ensures.value)
    (cross_read _ _ _ _ _ g.wx g.wy g.vx g.vy c.cross_product-across.ensures.range c.cross_product-across.ensures.value)
    c.is_beside_by.ensures
