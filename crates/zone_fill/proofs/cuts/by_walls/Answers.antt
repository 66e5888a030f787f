use Rattle.std.proofs.Common.{arith}
use Rattle.plane.specs.Plane.{StrictlyWithin}
use Rattle.centres.specs.Centres.{grown_wall}
use Rattle.zone_fill.proofs.Cutting.{cut_more, no_cuts, cuts_all}
use Rattle.zone_fill.proofs.cuts.by_walls.Goals as goal

pub each-init : goal.each-init
each-init c = rw c.new-cuts.ensures.items (no_cuts (λ w x y. StrictlyWithin (grown_wall c.args.radius w) x y))

pub each-preserved : goal.each-preserved
each-preserved c =
    cut_more (λ w x y. StrictlyWithin (grown_wall c.args.radius w) x y) c.args.walls.now c.wall-item.result c.each.wall-index c.each.cuts.items c.add_inside.new.cuts.items c.each-test.true
    c.wall-item.is c.each.invariant (rw c.grown.ensures at c.in_ok-add_inside.ensures)

pub returns : goal.returns
returns c =
    cuts_all (λ w x y. StrictlyWithin (grown_wall c.args.radius w) x y) c.args.walls.now c.each.wall-index c.each.cuts.items
    (omega (arith, c.each-test.false)) c.each.invariant
