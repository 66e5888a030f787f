use Rattle.zone_fill.proofs.Walling.{areas_more}
use Rattle.zone_fill.proofs.walls.walls_of.Goals as goal

pub each-preserved : goal.each-preserved
each-preserved c = (
  areas_more c.args.outline.now c.args.layer c.args.areas.now c.args.frame.now c.area-item.result c.each.area-index c.each.walls.items c.in_ok-walls-2.walls.items c.each-test.true
      c.area-item.is c.each.invariant.0 c.in_ok-walls-2.ensures.walls,
  c.in_ok-walls-2.ensures.room,
)
