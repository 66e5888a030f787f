use Rattle.std.proofs.Common.{arith, length, ◌<◌}
use Rattle.clusters.proofs.NodeParts.{copper_yes, copper_no, bare}
use Rattle.clusters.proofs.reading.octagon_shapes.Goals.{then-labels-k+in_ok-push, else-labels-k}
use Rattle.clusters.proofs.reading.octagon_shapes.Goals as goal

pub each-preserved : goal.each-preserved
each-preserved c =
    let m : c.each.k < length c.args.labels.now = omega (arith, c.each-test.true, c.requires.count) in
    elim c.if-labels-k.branch [
      | then-labels-k+in_ok-push w ↦ rw w.shapes-is
          (copper_yes c.args.first c.args.octs.now c.args.labels.now c.each.k w.index-octs-k.result c.each-test.true m w.index-octs-k.is c.each.shapes.items w.push.new.self.items c.each.invariant
          w.of_oct.result w.if-labels-k.true w.of_oct.ensures w.in_ok-push.ensures.items)
      | else-labels-k w ↦ rw w.shapes-is (copper_no c.args.first c.args.octs.now c.args.labels.now c.each.k bare c.each.shapes.items c.each-test.true m w.if-labels-k.false c.each.invariant)
    ]
