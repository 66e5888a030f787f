use Rattle.std.proofs.Common.{ℕ, sym, ◌∙◌, ap, subst, map, length, List}
use Rattle.std.proofs.lemmas.List.{length-map}
use Rattle.std.specs.Arc.{arc_value}
use Rattle.fill_rules.specs.Nodes as rules
use Rattle.fill_rules.specs.Clusters.{node_net}
use Rattle.clusters.specs.declared.Node as code
use Rattle.clusters.specs.Labelling.{node_of}
use Rattle.clusters.specs.Inner.Copper.{AreNodePatches}
use Rattle.clusters.proofs.Joined.{clusters_are}
use Rattle.clusters.proofs.clusters.Goals as goal

pub labels-requires-clause-order : goal.labels-requires-clause-order
labels-requires-clause-order c = c.in_ok-patches.ensures.patches.order

pub returns : goal.returns
returns c =
    let b = c.args.board.now.board in
    let fs = map arc_value c.args.fills.now in
    record {
      nodes = c.in_ok-nodes.ensures;
      nets = c.in_ok-nets.ensures ∙ ap (λ (ns : List code.Node). map (node_net b) (map (node_of b) ns)) c.deref-2.ensures.value ∙ ap (map (node_net b)) c.in_ok-nodes.ensures;
      clusters = clusters_are b fs c.copper_law.ensures c.in_ok-count.count c.in_ok-patches.patches.items
          (subst (λ (n : ℕ). AreNodePatches b fs (rules.nodes_of b fs) n c.in_ok-patches.patches.items) (ap (λ (ns : List code.Node). length ns) (c.deref-3.ensures.value ∙ sym c.deref.ensures.value) ∙ sym c.in_ok-count.ensures) c.in_ok-patches.ensures.patches) c.in_ok-label.label.items
          (c.in_ok-count.ensures ∙ ap (λ (ns : List code.Node). length ns) c.deref.ensures.value ∙ sym (length-map c.in_ok-nodes.nodes.items (node_of b))
          ∙ ap (λ (ns : List rules.Node). length ns) c.in_ok-nodes.ensures)
          c.in_ok-label.ensures;
    }
