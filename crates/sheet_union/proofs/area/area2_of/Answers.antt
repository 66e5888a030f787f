use Rattle.std.proofs.Common.{arith}
use Rattle.std.proofs.lemmas.Int.{ints}
use Rattle.sheet_union.proofs.Areas.{area_step, area_fits, area_end}
use Rattle.sheet_union.proofs.area.area2_of.Goals as goal

pub each-init : goal.each-init
each-init c = omega (arith, ints)

pub overflow_add-area : goal.overflow_add-area
overflow_add-area c = area_fits c.args.strips.now c.each.strip-index c.each.area c.strip_area2-area.result c.requires c.each-test.true c.strip_area2-area.ensures c.each.invariant

pub each-preserved : goal.each-preserved
each-preserved c = area_step c.args.strips.now c.each.strip-index c.each.area c.strip_area2-area.result c.each-test.true c.strip_area2-area.ensures c.each.invariant

pub returns : goal.returns
returns c = area_end c.args.strips.now c.each.strip-index c.each.area c.each-test.false c.each.invariant
