-- The lines of each net are a least tree, one fewer than the clusters that are reported.
use Rattle.std.proofs.Common.{◌≡◌, refl, sym, ◌∙◌, ap, subst, arith, ℕ, suc, ◌<◌, List, [], ◌∷◌, length, map, get_or}
use Rattle.std.proofs.lemmas.List.{length-map}
use Rattle.std.proofs.lemmas.Option.{slice_get-get_or}
use Rattle.classes.specs.Classes.{IsOneOf}
use Rattle.islands.proofs.Members.{one_place}
use Rattle.ratsnest.specs.declared.Anchor.{Anchor}
use Rattle.ratsnest.specs.declared.Pair.{Pair}
use Rattle.ratsnest.specs.Ratsnest.{IsCluster, HasClusters, HasOneFewer, TreeLaw}
use Rattle.board_language.specs.Board.{Board}
use Rattle.fill_rules.specs.Made.{Made}
use Rattle.fill_rules.specs.Nodes.{pad, nodes_of}
use Rattle.fill_rules.specs.Clusters.{node_net, option_or_zero, AreClusters, net_anchors}
use Rattle.fill_rules.specs.ClusterLaws.{ClusterLaw, LabelLaw}
use Rattle.fills.specs.Fills.{AreBoardFills}
use Rattle.output_rules.specs.Report.{NetLines, Report}
use Rattle.output_rules.specs.Reported.{nets_of, labels_of, members_of, line_of_pair, AreNetLines}
use Rattle.output_rules.specs.Laws.{NetsLaw}
use Rattle.headline.specs.Headline.{HasLeastTree}
use Rattle.headline.proofs.Counts.{as_many}
use Rattle.headline.proofs.Nets.{listed}
use Rattle.headline.proofs.Named.{label_is, named}

-- a net that is reported has a node, and so a cluster
some_cluster : NetsLaw → (b : Board) (fills : List Made) (labels : List ℕ) (net : ℕ) → AreBoardFills b fills → AreClusters b fills labels → IsOneOf net (nets_of b fills)
    → (c : ℕ) × IsCluster (net_anchors b fills labels net) c
some_cluster law b fills labels net f a i =
    let n = (law.members b fills net).0 i in
    let r = one_place n.node (nodes_of b fills) n.is in
    let at = slice_get-get_or (nodes_of b fills) r.0 (pad 0) r.1 in (
      get_or labels r.0 0,
      label_is b fills labels net r.0 f a.each (subst (λ m. r.0 < m) (sym a.each) r.1)
          (ap (option_or_zero (node_net b)) at ∙ ap (node_net b) (r.2 (pad 0)) ∙ sym n.net_is),
    )

-- where there is a cluster, a list of all clusters has one more than the pairs of the tree
one_more : (anchors : List Anchor) (pairs : List Pair) (all : List ℕ) (c : ℕ) → HasOneFewer anchors pairs → HasClusters anchors all → IsCluster anchors c → suc (length pairs) ≡ length all
unfolding HasOneFewer
one_more [] pairs all c h has some = absurd (let l = some.there in omega (arith, l))
one_more (a ∷ anchors) pairs all c h has some = sym h.2 ∙ as_many (a ∷ anchors) h.0 all h.1 has

-- the same of the lines and the clusters as they are reported
reported : (b : Board) (fills : List Made) (labels : List ℕ) (net : ℕ) (pairs : List Pair) → suc (length pairs) ≡ length (labels_of b fills labels net)
    → suc (length (map (line_of_pair (net_anchors b fills labels net)) pairs)) ≡ length (map (members_of labels) (labels_of b fills labels net))
reported b fills labels net pairs e =
    ap suc (length-map pairs (line_of_pair (net_anchors b fills labels net))) ∙ e ∙ sym (length-map (labels_of b fills labels net) (members_of labels))

pub trees : TreeLaw → LabelLaw → ClusterLaw → NetsLaw → (b : Board) (fills : List Made) (labels : List ℕ) (r : Report) (lines : NetLines) → AreBoardFills b fills → AreClusters b fills labels
    → AreNetLines b fills labels (nets_of b fills) r.nets → IsOneOf lines r.nets → HasLeastTree b fills lines
trees law same classes members b fills labels r lines f a nets h =
    let l = listed b fills labels (nets_of b fills) r.nets lines nets h in
    let least = law.least (net_anchors b fills labels l.net) l.pairs l.tree in
    let has = named same classes b fills labels l.net f a in
    let some = some_cluster members b fills labels l.net f a l.one in
    subst (λ n. HasLeastTree b fills n) (sym l.is)
    (record {
      labels = labels;
      are_clusters = a;
      pairs = l.pairs;
      joining_order = l.tree;
      least = least;
      lines = refl;
      clusters = refl;
      named = has;
      count = reported b fills labels l.net l.pairs (one_more (net_anchors b fills labels l.net) l.pairs (labels_of b fills labels l.net) some.0 least.fewer has some.1);
    })
