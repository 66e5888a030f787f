use Rattle.std.proofs.Common.{arith}
use Rattle.plane.specs.Plane.{StrictlyWithin}
use Rattle.centres.specs.Centres.{grown_need}
use Rattle.knockouts.specs.Obstacles.{need_of}
use Rattle.zone_fill.proofs.Cutting.{cut_more, no_cuts, cuts_all}
use Rattle.zone_fill.proofs.Entering.{need_at}
use Rattle.zone_fill.proofs.cuts.by_needs.Goals as goal

pub each-init : goal.each-init
each-init c = rw c.new-cuts.ensures.items (no_cuts (λ n x y. StrictlyWithin (grown_need c.args.radius (need_of n)) x y))

pub grown_need-requires-clause-need : goal.grown_need-requires-clause-need
grown_need-requires-clause-need c = need_at c.args.needs.now c.each.need-index c.need-item.result c.each-test.true c.need-item.is c.requires.needs

pub each-preserved : goal.each-preserved
each-preserved c =
    cut_more (λ n x y. StrictlyWithin (grown_need c.args.radius (need_of n)) x y) c.args.needs.now c.need-item.result c.each.need-index c.each.cuts.items c.add_inside.new.cuts.items c.each-test.true
    c.need-item.is c.each.invariant (rw c.grown_need.ensures at c.in_ok-add_inside.ensures)

pub returns : goal.returns
returns c =
    cuts_all (λ n x y. StrictlyWithin (grown_need c.args.radius (need_of n)) x y) c.args.needs.now c.each.need-index c.each.cuts.items
    (omega (arith, c.each-test.false)) c.each.invariant
