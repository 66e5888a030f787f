-- The labels that a report lists of a net are the clusters of the net's anchors, each once.
use Rattle.std.proofs.Common.{◌≡◌, refl, sym, ◌∙◌, ap, subst, arith, ℕ, zero, suc, ◌<◌, ◌≤◌, inl, inr, Bool, true, false, List, [], ◌∷◌, length, map, filter, get_or, cond, Some, slice_get}
use Rattle.std.specs.Prelude.{◌==◌, zip}
use Rattle.std.proofs.lemmas.Option.{slice_get-get_or}
use Rattle.grid_num.specs.declared.Point.{Point}
use Rattle.classes.specs.Classes.{IsOneOf}
use Rattle.classes.proofs.Reaching.{reaches_keeps}
use Rattle.islands.proofs.Members.{one_at, one_place}
use Rattle.ratsnest.specs.declared.Anchor.{Anchor}
use Rattle.ratsnest.specs.Ratsnest.{anchor, IsCluster, Apart, HasClusters}
use Rattle.board_language.specs.Board.{Board}
use Rattle.board_language.proofs.Members.{one_of_flat, flat_one_of, one_of_map, map_one_of}
use Rattle.fill_rules.specs.Made.{Made}
use Rattle.fill_rules.specs.Nodes.{Node, pad, nodes_of, firsts_from}
use Rattle.fill_rules.specs.Clusters.{node_net, option_or_zero, node_ends, node_anchors, net_anchors, AreJoinedAt, IsOneCluster, AreClusters}
use Rattle.fill_rules.specs.ClusterLaws.{ClusterLaw, LabelLaw}
use Rattle.fill_rules.proofs.Anchors.{eq_true}
use Rattle.fills.specs.Fills.{AreBoardFills}
use Rattle.output_rules.specs.Reported.{net_at, labels_of}
use Rattle.headline.proofs.Places.{in_choice, first_choice, eq_same, first_of, first_is, is_first, passes, passing}
use Rattle.headline.proofs.Counts.{EachOnce}
use Rattle.headline.proofs.Ends.{has_end}
use Rattle.headline.proofs.Nets.{own_label}

-- ---- each once

-- first places are counted upward
not_before : (j k : ℕ) (xs : List ℕ) → IsOneOf k (firsts_from j xs) → j ≤ k
not_before j k xs h = let p = (first_of j k xs h).place in omega (arith, p)

firsts_once : (j : ℕ) (xs : List ℕ) → EachOnce (firsts_from j xs)
unfolding Apart
firsts_once j [] = tt
firsts_once j (x ∷ xs) = pick (x == j) (firsts_once (suc j) xs)
  where
    pick : (t : Bool) → EachOnce (firsts_from (suc j) xs) → EachOnce (cond t (j ∷ firsts_from (suc j) xs) (firsts_from (suc j) xs))
    pick true r = (λ k i e. (let l = not_before (suc j) k xs i in omega (arith, l, e)), r)
    pick false r = r

passing_once : (p : ℕ → Bool) (xs : List ℕ) → EachOnce xs → EachOnce (filter p xs)
unfolding Apart
passing_once p [] a = tt
passing_once p (x ∷ xs) a = pick (p x) (passing_once p xs a.1)
  where
    pick : (t : Bool) → EachOnce (filter p xs) → EachOnce (cond t (x ∷ filter p xs) (filter p xs))
    pick true r = (λ k i e. a.0 k (passes p k xs i).0 e, r)
    pick false r = r

-- ---- nodes beside their labels

both_at : (ns : List Node) (labels : List ℕ) (k : ℕ) → k < length ns → k < length labels → IsOneOf (get_or ns k (pad 0), get_or labels k 0) (zip ns labels)
unfolding IsOneOf
both_at [] labels k l m = absurd (omega (arith, l))
both_at (n ∷ ns) [] k l m = absurd (omega (arith, m))
both_at (n ∷ ns) (x ∷ labels) zero l m = inl refl
both_at (n ∷ ns) (x ∷ labels) (suc k) l m = inr (both_at ns labels k (omega (arith, l)) (omega (arith, m)))

-- the place of a node and its label
record IsPlaceOfBoth (ns : List Node) (labels : List ℕ) (n : Node × ℕ) (k : ℕ) : Type 0 where
  pub within : k < length labels
  pub node : slice_get ns k ≡ Some n.0
  pub label : get_or labels k 0 ≡ n.1

place_of_both : (ns : List Node) (labels : List ℕ) (n : Node × ℕ) → IsOneOf n (zip ns labels) → (k : ℕ) × IsPlaceOfBoth ns labels n k
unfolding IsOneOf
place_of_both [] labels n h = absurd h
place_of_both (m ∷ ns) [] n h = absurd h
place_of_both (m ∷ ns) (x ∷ labels) n (inl e) =
    (0, record { within = omega arith; node = ap (λ (p : Node × ℕ). Some p.0) (sym e); label = ap (λ (p : Node × ℕ). p.1) (sym e) })
place_of_both (m ∷ ns) (x ∷ labels) n (inr i) =
    let r = place_of_both ns labels n i in
    (suc r.0, record { within = (let l = r.1.within in omega (arith, l)); node = r.1.node; label = r.1.label })

-- ---- anchors and their clusters

abbrev anchor_at : ℕ → Point → Anchor
anchor_at cluster p = record { at = p; cluster = cluster }

cluster_of : (anchors : List Anchor) (a : Anchor) → IsOneOf a anchors → IsCluster anchors a.cluster
cluster_of anchors a i =
    let r = one_place a anchors i in
    record { number = r.0; there = r.1; is = ap (λ (z : Anchor). z.cluster) (r.2 _) }

-- the label of each node of the net is the cluster of an anchor
pub label_is : (b : Board) (fills : List Made) (labels : List ℕ) (net k : ℕ) → AreBoardFills b fills → length labels ≡ length (nodes_of b fills) → k < length labels
    → net_at b fills k ≡ net → IsCluster (net_anchors b fills labels net) (get_or labels k 0)
unfolding net_anchors
label_is b fills labels net k f each l own =
    let m : k < length (nodes_of b fills) = subst (λ n. k < n) each l in
    let node : Node = get_or (nodes_of b fills) k (pad 0) in
    let label : ℕ = get_or labels k 0 in
    let at : slice_get (nodes_of b fills) k ≡ Some node = slice_get-get_or (nodes_of b fills) k (pad 0) m in
    let net_is : node_net b node ≡ net = ap (option_or_zero (node_net b)) (sym at) ∙ own in
    let end = has_end b fills f node (one_at (nodes_of b fills) k (pad 0) m) in
    let its : IsOneOf (anchor_at label end.0) (node_anchors b fills net (node, label)) =
    first_choice (node_net b node == net) (anchor_at label end.0) _ [] (ap (λ n. n == net) net_is ∙ eq_same net)
    (map_one_of (anchor_at label) end.0 (node_ends b fills node) end.1) in
    cluster_of (net_anchors b fills labels net) (anchor_at label end.0)
    (flat_one_of (node_anchors b fills net) (anchor_at label end.0) (node, label) (zip (nodes_of b fills) labels) (both_at (nodes_of b fills) labels k m l) its)

-- an anchor of the net is that of one of its nodes, and has the label of this
record IsOfNode (b : Board) (fills : List Made) (labels : List ℕ) (net cluster k : ℕ) : Type 0 where
  pub within : k < length labels
  pub net_is : net_at b fills k ≡ net
  pub label : get_or labels k 0 ≡ cluster

of_node : (b : Board) (fills : List Made) (labels : List ℕ) (net : ℕ) (a : Anchor) → IsOneOf a (net_anchors b fills labels net) → (k : ℕ) × IsOfNode b fills labels net a.cluster k
unfolding net_anchors IsOneOf
of_node b fills labels net a i =
    let r = one_of_flat (node_anchors b fills net) a (zip (nodes_of b fills) labels) i in
    let p = place_of_both (nodes_of b fills) labels r.0 r.1 in
    elim (in_choice (node_net b r.0.0 == net) a (map (anchor_at r.0.1) (node_ends b fills r.0.0)) [] r.2) [
      | inl (e, j) ↦
          let m = one_of_map (anchor_at r.0.1) a (node_ends b fills r.0.0) j in (
            p.0,
            record {
              within = p.1.within;
              net_is = ap (option_or_zero (node_net b)) p.1.node ∙ eq_true (node_net b r.0.0) net e;
              label = p.1.label ∙ sym (ap (λ (z : Anchor). z.cluster) m.2);
            },
          )
      | inr (e, j) ↦ absurd j
    ]

-- nodes of one cluster are of one net
net_kept : (b : Board) (fills : List Made) (net i j : ℕ) → IsOneCluster b fills i j → net_at b fills i ≡ net → net_at b fills j ≡ net
unfolding IsOneCluster
net_kept b fills net i j h own = reaches_keeps (AreJoinedAt b fills) (λ k. net_at b fills k ≡ net) along i j h own
  where
    along : (x y : ℕ) → AreJoinedAt b fills x y → net_at b fills x ≡ net → net_at b fills y ≡ net
    along x y l e =
        ap (option_or_zero (node_net b)) l.at_second ∙ sym l.joined.net ∙ sym (ap (option_or_zero (node_net b)) l.at_first) ∙ e

-- ---- the labels of a net

is_label : LabelLaw → ClusterLaw → (b : Board) (fills : List Made) (labels : List ℕ) (net k : ℕ) → AreClusters b fills labels → k < length labels → net_at b fills k ≡ net
    → IsOneOf (get_or labels k 0) (labels_of b fills labels net)
unfolding IsOneCluster
is_label law classes b fills labels net k a l own =
    let label : ℕ = get_or labels k 0 in
    let o = own_label law classes b fills labels a k l in
    let kept : net_at b fills label ≡ net = net_kept b fills net k label (a.least k l).reached own in
    passing (λ n. net_at b fills n == net) label (firsts_from 0 labels) (is_first labels label o.0 o.1) (ap (λ n. n == net) kept ∙ eq_same net)

pub named : LabelLaw → ClusterLaw → (b : Board) (fills : List Made) (labels : List ℕ) (net : ℕ) → AreBoardFills b fills → AreClusters b fills labels
    → HasClusters (net_anchors b fills labels net) (labels_of b fills labels net)
named law classes b fills labels net f a = record {
  apart = passing_once (λ k. net_at b fills k == net) (firsts_from 0 labels) (firsts_once 0 labels);
  these = λ c i. (let p = passes (λ k. net_at b fills k == net) c (firsts_from 0 labels) i in
      let first = first_is labels c p.0 in
      subst (IsCluster (net_anchors b fills labels net)) first.1 (label_is b fills labels net c f a.each first.0 (eq_true (net_at b fills c) net p.1)));
  whole = λ c h. (let o = of_node b fills labels net (anchor (net_anchors b fills labels net) h.number) (one_at (net_anchors b fills labels net) h.number _ h.there) in
      subst (λ n. IsOneOf n (labels_of b fills labels net)) (o.1.label ∙ h.is) (is_label law classes b fills labels net o.0 a o.1.within o.1.net_is));
}
