use Rattle.std.proofs.Common.{sym, ◌∙◌, subst, map, List}
use Rattle.std.specs.Arc.{arc_value}
use Rattle.ratsnest.specs.declared.Anchor.{Anchor}
use Rattle.ratsnest.specs.Ratsnest.{IsTree}
use Rattle.fill_text.specs.Inner.Alike.{AreSmallLabels}
use Rattle.fill_text.proofs.NetsSaid.{labels_up, net_said}
use Rattle.fill_text.proofs.lines_of_nets.lines_of_net.Goals as goal

pub clusters_of-requires-clause-labels : goal.clusters_of-requires-clause-labels
clusters_of-requires-clause-labels c = subst AreSmallLabels (sym c.deref.ensures.value) (labels_up c.args.board.now.board (map arc_value c.args.fills.now) _ c.requires.labelling.clusters)

pub returns-clause-lines : goal.returns-clause-lines
returns-clause-lines c =
    let b = c.args.board.now.board in
    let fs = map arc_value c.args.fills.now in
    let it = c.args.labelling.now in
    record {
      pairs = c.in_ok-pairs.pairs.items;
      tree = subst (λ (as_ : List Anchor). IsTree as_ c.in_ok-pairs.pairs.items) (c.deref-4.ensures.value ∙ c.in_ok-anchors.ensures.anchors) c.in_ok-pairs.ensures.order;
      is = net_said b fs it.label.items it.nets.items _ _ c.args.net c.in_ok-clusters.clusters.items c.in_ok-anchors.anchors.items _ c.in_ok-pairs.pairs.items _ c.in_ok-lines.lines.items
          c.requires.labelling.nets c.deref.ensures.value c.deref-2.ensures.value c.in_ok-clusters.ensures c.deref-5.ensures.value c.in_ok-anchors.ensures.anchors c.deref-6.ensures.value c.in_ok-lines.ensures.lines;
    }
