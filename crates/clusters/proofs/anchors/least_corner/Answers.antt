use Rattle.std.proofs.Common.{refl, subst, arith, length, ◌<◌, List, []}
use Rattle.plane.specs.Plane.{Bounds}
use Rattle.clusters.specs.Inner.Corners.{IsLeastCorner}
use Rattle.clusters.proofs.Corners.{least_none, labelled_all, least_step, least_stay}
use Rattle.clusters.proofs.anchors.least_corner.Goals.{then-parts-k, else-parts-k}
use Rattle.clusters.proofs.anchors.least_corner.Goals as goal

pub each-init : goal.each-init
each-init c = least_none [] refl

pub each-preserved : goal.each-preserved
each-preserved c =
    let m : c.each.k < length c.args.parts.now = omega (arith, c.each-test.true, c.requires.count) in
    elim c.if-parts-k.branch [
      | then-parts-k w ↦ least_step c.args.first c.args.pieces.now c.args.parts.now c.each.k c.each.least c.if-parts-k.least w.index-pieces-k.result w.top_corner.result w.lesser.result
          c.each-test.true m w.index-pieces-k.is w.if-parts-k.true w.least-is w.top_corner.ensures w.lesser.ensures c.each.invariant
      | else-parts-k w ↦ least_stay c.args.first c.args.pieces.now c.args.parts.now c.each.k c.each.least c.if-parts-k.least c.each-test.true m w.if-parts-k.false w.least-is c.each.invariant
    ]

pub returns : goal.returns
returns c = subst (λ (z : List Bounds). IsLeastCorner z c.each.least) (labelled_all c.args.first c.args.pieces.now c.args.parts.now c.each.k c.each-test.false c.requires.count) c.each.invariant
