-- The clusters of a report are the classes of touching copper.
use Rattle.std.proofs.Common.{◌≡◌, refl, sym, ◌∙◌, ap, subst, arith, ℕ, ◌<◌, ◌≤◌, inl, inr, List, [], ◌∷◌, length, get_or, Some, slice_get}
use Rattle.std.specs.Prelude.{◌==◌, ◌↔◌}
use Rattle.std.proofs.lemmas.Option.{slice_get-get_or}
use Rattle.classes.specs.Classes.{IsOneOf}
use Rattle.islands.proofs.Members.{one_at}
use Rattle.ratsnest.specs.declared.Pair.{Pair}
use Rattle.ratsnest.specs.Ratsnest.{IsTree}
use Rattle.board_language.specs.Board.{Board}
use Rattle.board_language.proofs.Members.{one_of_map, map_one_of}
use Rattle.fill_rules.specs.Made.{Made}
use Rattle.fill_rules.specs.Nodes.{Node, pad, nodes_of, firsts_from}
use Rattle.fill_rules.specs.Clusters.{node_net, option_or_zero, IsOneCluster, AreClusters, net_anchors}
use Rattle.fill_rules.specs.ClusterLaws.{ClusterLaw, LabelLaw}
use Rattle.output_rules.specs.Report.{NetLines, Report}
use Rattle.output_rules.specs.Reported.{nets_of, net_at, labels_of, members_of, net_lines, AreNetLines}
use Rattle.output_rules.specs.Laws.{NetsLaw}
use Rattle.headline.specs.Headline.{StandTogether}
use Rattle.headline.proofs.Places.{eq_same, member_is, is_member, is_first, passing}

-- ---- the lines of nets

-- the net's lines are those of one of the nets
pub record IsListed (b : Board) (fills : List Made) (labels nets : List ℕ) (lines : NetLines) : Type 0 where
  pub net : ℕ
  pub one : IsOneOf net nets
  pub pairs : List Pair
  pub tree : IsTree (net_anchors b fills labels net) pairs
  pub is : lines ≡ net_lines b fills labels net pairs

more_listed : (b : Board) (fills : List Made) (labels nets : List ℕ) (n : ℕ) (lines : NetLines) → IsListed b fills labels nets lines → IsListed b fills labels (n ∷ nets) lines
unfolding IsOneOf
more_listed b fills labels nets n lines h = record { net = h.net; one = inr h.one; pairs = h.pairs; tree = h.tree; is = h.is }

pub listed : (b : Board) (fills : List Made) (labels nets : List ℕ) (all : List NetLines) (lines : NetLines) → AreNetLines b fills labels nets all → IsOneOf lines all → IsListed b fills labels nets lines
unfolding IsOneOf
listed b fills labels [] all lines a h = absurd (subst (λ ls. IsOneOf lines ls) a h)
listed b fills labels (n ∷ nets) all lines a h = elim (subst (λ ls. IsOneOf lines ls) a.4 h) [
  | inl e ↦ record { net = n; one = inl refl; pairs = a.0; tree = a.2; is = e }
  | inr m ↦ more_listed b fills labels nets n lines (listed b fills labels nets a.1 lines a.3 m)
]

-- each net has its lines
has_lines : (b : Board) (fills : List Made) (labels nets : List ℕ) (all : List NetLines) (n : ℕ) → AreNetLines b fills labels nets all → IsOneOf n nets
    → (pairs : List Pair) × IsOneOf (net_lines b fills labels n pairs) all
unfolding IsOneOf
has_lines b fills labels [] all n a h = absurd h
has_lines b fills labels (m ∷ nets) all n a (inl e) =
    (a.0, subst (λ ls. IsOneOf (net_lines b fills labels n a.0) ls) (sym a.4) (inl (ap (λ k. net_lines b fills labels k a.0) e)))
has_lines b fills labels (m ∷ nets) all n a (inr i) =
    let r = has_lines b fills labels nets a.1 n a.3 i in
    (r.0, subst (λ ls. IsOneOf (net_lines b fills labels n r.0) ls) (sym a.4) (inr r.1))

-- ---- clusters

in_one : (r : Report) (i j : ℕ) (net : NetLines) (cluster : List ℕ) → IsOneOf net r.nets → IsOneOf cluster net.clusters → IsOneOf i cluster → IsOneOf j cluster → StandTogether r i j
in_one r i j net cluster n c k l = record { net = net; reported = n; cluster = cluster; listed = c; first = k; second = l }

-- nodes in one line have one label
same_label : (b : Board) (fills : List Made) (labels : List ℕ) (r : Report) (i j : ℕ) → AreNetLines b fills labels (nets_of b fills) r.nets → StandTogether r i j
    → (i < length labels) × (j < length labels) × (get_or labels i 0 ≡ get_or labels j 0)
same_label b fills labels r i j a h =
    let l = listed b fills labels (nets_of b fills) r.nets h.net a h.reported in
    let c = one_of_map (members_of labels) h.cluster (labels_of b fills labels l.net) (subst (λ n. IsOneOf h.cluster n.clusters) l.is h.listed) in
    let first = member_is labels c.0 i (subst (λ m. IsOneOf i m) c.2 h.first) in
    let second = member_is labels c.0 j (subst (λ m. IsOneOf j m) c.2 h.second) in
    (first.0, second.0, first.1 ∙ sym second.1)

-- a label is its own
pub own_label : LabelLaw → ClusterLaw → (b : Board) (fills : List Made) (labels : List ℕ) → AreClusters b fills labels → (i : ℕ) → i < length labels
    → (get_or labels i 0 < length labels) × (get_or labels (get_or labels i 0) 0 ≡ get_or labels i 0)
unfolding IsOneCluster
own_label law classes b fills labels a i l =
    let least = a.least i l in
    let below : get_or labels i 0 ≤ i = least.least i (classes.itself b fills i) in
    let within : get_or labels i 0 < length labels = omega (arith, below, l) in
    (within, sym (law.same b fills labels i (get_or labels i 0) a l within least.reached))

-- the net of a node is one of the report
net_there : NetsLaw → (b : Board) (fills : List Made) (k : ℕ) → k < length (nodes_of b fills) → IsOneOf (net_at b fills k) (nets_of b fills)
net_there law b fills k l =
    let node : Node = get_or (nodes_of b fills) k (pad 0) in
    let at : slice_get (nodes_of b fills) k ≡ Some node = slice_get-get_or (nodes_of b fills) k (pad 0) l in
    (law.members b fills (net_at b fills k)).1 (record { node = node; is = one_at (nodes_of b fills) k (pad 0) l; net_is = ap (option_or_zero (node_net b)) at })

-- nodes of one label stand in one line
in_line : LabelLaw → ClusterLaw → NetsLaw → (b : Board) (fills : List Made) (labels : List ℕ) (r : Report) (i j : ℕ) → AreClusters b fills labels → AreNetLines b fills labels (nets_of b fills) r.nets
    → i < length labels → j < length labels → get_or labels i 0 ≡ get_or labels j 0 → StandTogether r i j
in_line law classes nets b fills labels r i j a lines l m e =
    let label : ℕ = get_or labels i 0 in
    let own = own_label law classes b fills labels a i l in
    let net : ℕ = net_at b fills label in
    let listed_net = has_lines b fills labels (nets_of b fills) r.nets net lines (net_there nets b fills label (subst (λ n. label < n) a.each own.0)) in
    let there : IsOneOf label (labels_of b fills labels net) = passing (λ k. net_at b fills k == net) label (firsts_from 0 labels) (is_first labels label own.0 own.1) (eq_same net) in
    in_one r i j (net_lines b fills labels net listed_net.0) (members_of labels label) listed_net.1 (map_one_of (members_of labels) label (labels_of b fills labels net) there)
    (is_member labels label i l refl) (is_member labels label j m (sym e))

pub clusters : LabelLaw → ClusterLaw → NetsLaw → (b : Board) (fills : List Made) (labels : List ℕ) (r : Report) (i j : ℕ) → AreClusters b fills labels → AreNetLines b fills labels (nets_of b fills) r.nets
    → i < length (nodes_of b fills) → j < length (nodes_of b fills) → StandTogether r i j ↔ IsOneCluster b fills i j
clusters law classes nets b fills labels r i j a lines l m = (
  λ h. (let s = same_label b fills labels r i j lines h in law.one b fills labels i j a s.0 s.1 s.2),
  λ h.
      (let k = subst (λ n. i < n) (sym a.each) l in
      let o = subst (λ n. j < n) (sym a.each) m in
      in_line law classes nets b fills labels r i j a lines k o (law.same b fills labels i j a k o h)),
)
