use Rattle.std.proofs.Common.{ap, map, length, arith, ◌<◌, List}
use Rattle.std.proofs.lemmas.List.{length-map}
use Rattle.std.specs.Arc.{arc_value}
use Rattle.fill_rules.specs.Nodes as rules
use Rattle.fill_rules.specs.Nodes.{nodes_of}
use Rattle.fill_rules.specs.Clusters.{net_anchors}
use Rattle.clusters.specs.Labelling.{node_of}
use Rattle.clusters.proofs.Ends.{anchors_step, anchors_stay, anchors_end}
use Rattle.clusters.proofs.anchors.anchors_of.Goals.{then-index-net+in_ok-ends+in_ok-add_ends, else-index-net}
use Rattle.clusters.proofs.anchors.anchors_of.Goals as goal

pub each-preserved : goal.each-preserved
each-preserved c =
    let b = c.args.board.now.board in
    let fs = map arc_value c.args.fills.now in
    let it = c.args.labelling.now in
    let l : c.each.k < length it.nodes.items = omega (arith, c.each-test.true, c.len-k-end.ensures, it.nodes.ok) in
    elim c.if-index-net.branch [
      | then-index-net+in_ok-ends+in_ok-add_ends w ↦ rw w.anchors-is
          (anchors_step b fs c.args.net (node_of b) it.nodes.items (nodes_of b fs) it.nets.items it.label.items c.each.k w.index-then-index-net.result.now w.index-then-index-net-2.result.now c.index.result.now
          c.requires.labelling.nodes c.requires.labelling.nets c.requires.labelling.clusters.each l w.index-then-index-net.ensures w.index-then-index-net-2.ensures c.index.ensures
          w.in_ok-ends.ends.items w.deref.result.now c.each.anchors.items w.add_ends.new.anchors.items _ w.if-index-net.true w.in_ok-ends.ensures w.deref.ensures.value w.in_ok-add_ends.ensures c.each.invariant)
      | else-index-net w ↦ rw w.anchors-is
          (anchors_stay b fs c.args.net (node_of b) it.nodes.items (nodes_of b fs) it.nets.items it.label.items c.each.k c.index.result.now
          c.requires.labelling.nodes c.requires.labelling.nets c.requires.labelling.clusters.each l c.index.ensures c.each.anchors.items _ w.if-index-net.false c.each.invariant)
    ]

pub returns : goal.returns
unfolding net_anchors
returns c =
    let b = c.args.board.now.board in
    let fs = map arc_value c.args.fills.now in
    let it = c.args.labelling.now in
    let m = length-map it.nodes.items (node_of b) in
    let n = ap (λ (ns : List rules.Node). length ns) c.requires.labelling.nodes in
    anchors_end b fs c.args.net (nodes_of b fs) it.label.items c.each.k c.each.anchors.items _ (omega (arith, c.each-test.false, c.len-k-end.ensures, it.nodes.ok, m, n)) c.each.invariant
