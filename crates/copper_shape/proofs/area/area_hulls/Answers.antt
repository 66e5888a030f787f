use Rattle.copper_shape.proofs.Areas.{corner_places, area_is}
use Rattle.copper_shape.proofs.area.area_hulls.Goals as goal

pub hull-requires-clause-places : goal.hull-requires-clause-places
hull-requires-clause-places c = rw c.corners.ensures (corner_places 2000000000 c.args.bounds.now c.requires.tight c.requires.within)

pub returns : goal.returns
returns c =
    area_is c.args.bounds.now c.args.radius c.corners.result c.in_ok-hull.field-0 c.push.new.self.items c.corners.ensures c.in_ok-hull.ensures
    (rw c.new-hulls.ensures.items at c.in_ok-push.ensures.items)
