-- The nets of a report, one after another.
use Rattle.std.proofs.Common.{◌≡◌, refl, sym, ◌∙◌, ap, subst, ℕ, zero, suc, ◌+◌, ◌<◌, ◌≤◌, arith, List, [], ◌∷◌, ◌++◌, length, map, get_or, take}
use Rattle.std.specs.Prelude.{◌==◌, slice_get, filter, ℤ, pos, ◌+ℤ◌, ◌-ℤ◌, ◌*ℤ◌}
use Rattle.grid_num.specs.declared.Point.{Point}
use Rattle.islands.proofs.Members.{one_at}
use Rattle.board_text.specs.Items.{size_of}
use Rattle.output_rules.specs.declared.report.RatsnestLine.{RatsnestLine}
use Rattle.ratsnest.specs.declared.Anchor.{Anchor}
use Rattle.std.proofs.lemmas.List.{take_more, take_all, map_push, map_more}
use Rattle.std.proofs.lemmas.List.Elements.{filter_agree}
use Rattle.classes.specs.Classes.{IsOneOf}
use Rattle.classes.proofs.Reaching.{reaches_self}
use Rattle.ratsnest.specs.declared.Pair.{Pair}
use Rattle.ratsnest.specs.Ratsnest.{anchor, dist_sq, IsTree, TreeLaw}
use Rattle.board_language.specs.Board.{Board}
use Rattle.board_language.proofs.Members.{one_of_map, map_one_of}
use Rattle.fill_rules.specs.Made.{Made}
use Rattle.fill_rules.specs.Nodes.{Node, nodes_of, firsts_from}
use Rattle.fill_rules.specs.Clusters.{option_or_zero, node_net, net_anchors, AreClusters, AreJoinedAt}
use Rattle.output_rules.specs.Laws.{NetsLaw}
use Rattle.output_rules.specs.Report.{NetLines, unjoined}
use Rattle.output_rules.specs.Reported.{nets_of, net_lines, net_at, labels_of, members_of, line_of_pair, AreNetLines}
use Rattle.fill_text.specs.Inner.Alike.{AreSmallLabels}
use Rattle.fill_text.specs.Inner.Nets.{AreEachOnce, AreLinesOfNet}
use Rattle.fill_text.proofs.Once.{same_once}

-- no label is greater than its node's number
pub labels_up : (b : Board) (fills : List Made) (labels : List ℕ) → AreClusters b fills labels → AreSmallLabels labels
labels_up b fills labels h k l = (h.least k l).least k (reaches_self (AreJoinedAt b fills) k)

-- the nets of a report are those of its nodes, upward and each once
pub nets_are : NetsLaw → (b : Board) (fills : List Made) (nets once : List ℕ) → nets ≡ map (node_net b) (nodes_of b fills) → AreEachOnce nets once → once ≡ nets_of b fills
nets_are law b fills nets once e h =
    same_once once (nets_of b fills) h.sorted (law.sorted b fills)
    (λ n. (
      λ i. let j = subst (IsOneOf n) e ((h.same n).0 i) in let r = one_of_map (node_net b) n (nodes_of b fills) j in
          (law.members b fills n).1 (record { node = r.0; is = r.1; net_is = r.2 }),
      λ i. let w = (law.members b fills n).0 i in
          (h.same n).1 (subst (IsOneOf n) (sym e) (subst (λ m. IsOneOf m (map (node_net b) (nodes_of b fills))) (sym w.net_is) (map_one_of (node_net b) w.node (nodes_of b fills) w.is))),
    ))

-- ---- the labels of a net

net_there : (b : Board) (ns : List Node) (k : ℕ) → option_or_zero (node_net b) (slice_get ns k) ≡ get_or (map (node_net b) ns) k 0
net_there b [] k = refl
net_there b (n ∷ ns) zero = refl
net_there b (n ∷ ns) (suc k) = net_there b ns k

pub labels_are : (b : Board) (fills : List Made) (labels nets : List ℕ) (net : ℕ) → nets ≡ map (node_net b) (nodes_of b fills)
    → map (members_of labels) (filter (λ (k : ℕ). get_or nets k 0 == net) (firsts_from 0 labels)) ≡ map (members_of labels) (labels_of b fills labels net)
labels_are b fills labels nets net e =
    ap (map (members_of labels))
    (filter_agree (λ (k : ℕ). get_or nets k 0 == net) (λ (k : ℕ). net_at b fills k == net)
    (λ k. ap (λ (n : ℕ). n == net) (ap (λ (z : List ℕ). get_or z k 0) e ∙ sym (net_there b (nodes_of b fills) k))) (firsts_from 0 labels))

-- ---- the lines of a ratsnest

pub line_is : (anchors : List Anchor) (e : Pair) (d : ℕ) (a c : Point) → a ≡ (anchor anchors e.first).at → c ≡ (anchor anchors e.second).at
    → pos d ≡ ((a.x -ℤ c.x) *ℤ (a.x -ℤ c.x)) +ℤ ((a.y -ℤ c.y) *ℤ (a.y -ℤ c.y)) → ◌≡◌ {A = RatsnestLine} (record { from = a; to = c; square = d }) (line_of_pair anchors e)
unfolding dist_sq
line_is anchors e d a c ea ec h =
    ap (λ (z : ℤ). record { from = a; to = c; square = size_of z }) h
    ∙ ap (λ (p : Point). record { from = p; to = c; square = size_of (((p.x -ℤ c.x) *ℤ (p.x -ℤ c.x)) +ℤ ((p.y -ℤ c.y) *ℤ (p.y -ℤ c.y))) }) ea
    ∙ ap (λ (q : Point). record {
      from = (anchor anchors e.first).at;
      to = q;
      square = size_of ((((anchor anchors e.first).at.x -ℤ q.x) *ℤ ((anchor anchors e.first).at.x -ℤ q.x)) +ℤ (((anchor anchors e.first).at.y -ℤ q.y) *ℤ ((anchor anchors e.first).at.y -ℤ q.y)));
    }) ec

-- the anchors of a line of the tree are there
pub ends_there : TreeLaw → (anchors : List Anchor) (pairs : List Pair) → IsTree anchors pairs → (k : ℕ) (d : Pair) → k < length pairs
    → ((get_or pairs k d).first < length anchors) × ((get_or pairs k d).second < length anchors)
ends_there law anchors pairs t k d l =
    let p = (law.least anchors pairs t).joining.pairs (get_or pairs k d) (one_at pairs k d l) in
    let a = p.rising in
    let b = p.there in
    (omega (arith, a, b), b)

-- ---- one net

pub net_said : (b : Board) (fills : List Made) (labels nets seen_labels seen_nets : List ℕ) (net : ℕ) (clusters : List (List ℕ)) (anchors seen_anchors : List Anchor) (pairs seen_pairs : List Pair) (lines : List RatsnestLine)
    → nets ≡ map (node_net b) (nodes_of b fills) → seen_labels ≡ labels → seen_nets ≡ nets
    → clusters ≡ map (members_of seen_labels) (filter (λ (k : ℕ). get_or seen_nets k 0 == net) (firsts_from 0 seen_labels)) → seen_anchors ≡ anchors → anchors ≡ net_anchors b fills labels net
    → seen_pairs ≡ pairs → lines ≡ map (line_of_pair seen_anchors) seen_pairs
    → ◌≡◌ {A = NetLines} (record { net = net; clusters = clusters; lines = lines }) (net_lines b fills labels net pairs)
net_said b fills labels nets seen_labels seen_nets net clusters anchors seen_anchors pairs seen_pairs lines en el es ec ea ed ep eq =
    ap (λ (z : List (List ℕ)). record { net = net; clusters = z; lines = lines })
    (ec ∙ ap (λ (z : List ℕ). map (members_of z) (filter (λ (k : ℕ). get_or seen_nets k 0 == net) (firsts_from 0 z))) el
    ∙ ap (λ (z : List ℕ). map (members_of labels) (filter (λ (k : ℕ). get_or z k 0 == net) (firsts_from 0 labels))) es ∙ labels_are b fills labels nets net en)
    ∙ ap (λ (z : List RatsnestLine). record { net = net; clusters = map (members_of labels) (labels_of b fills labels net); lines = z })
    (eq ∙ ap (λ (z : List Anchor). map (line_of_pair z) seen_pairs) (ea ∙ ed) ∙ ap (map (line_of_pair (net_anchors b fills labels net))) ep)

-- ---- how many lines there are

unjoined_push : (ns : List NetLines) (n : NetLines) → unjoined (ns ++ n ∷ []) ≡ unjoined ns + length n.lines
unfolding unjoined
unjoined_push [] n = omega arith
unjoined_push (m ∷ ns) n = let h = unjoined_push ns n in omega (arith, h)

pub none_unjoined : 0 ≡ unjoined []
unfolding unjoined
none_unjoined = refl

pub unjoined_more : {V : Type 0} (f : V → NetLines) (nets : List V) (k : ℕ) (v : V) (count next more : ℕ) → k < length nets → v ≡ get_or nets k v → count ≡ unjoined (map f (take k nets))
    → next ≡ count + more → more ≡ length (f v).lines → next ≡ unjoined (map f (take (k + 1) nets))
unjoined_more f nets k v count next more l ev h en em =
    let e : unjoined (map f (take (k + 1) nets)) ≡ unjoined (map f (take k nets)) + length (f (get_or nets k v)).lines =
    ap unjoined (map_more f nets k v l) ∙ unjoined_push (map f (take k nets)) (f (get_or nets k v)) in
    let g : length (f v).lines ≡ length (f (get_or nets k v)).lines = ap (λ (w : _). length (f w).lines) ev in
    omega (arith, e, g, h, en, em)

-- ---- one net more

net_lines_push : (b : Board) (fills : List Made) (labels nets : List ℕ) (ns : List NetLines) (net : ℕ) (n : NetLines) → AreNetLines b fills labels nets ns → AreLinesOfNet b fills labels net n
    → AreNetLines b fills labels (nets ++ net ∷ []) (ns ++ n ∷ [])
net_lines_push b fills labels [] ns net n h w = (w.pairs, [], w.tree, refl, ap (λ (z : List NetLines). z ++ n ∷ []) h ∙ ap (λ (z : NetLines). z ∷ []) w.is)
net_lines_push b fills labels (m ∷ nets) ns net n h w =
    (h.0, h.1 ++ n ∷ [], h.2, net_lines_push b fills labels nets h.1 net n h.3 w, ap (λ (z : List NetLines). z ++ n ∷ []) h.4)

pub nets_more : {V : Type 0} (f : V → NetLines) (b : Board) (fills : List Made) (labels nets : List ℕ) (k : ℕ) (done new : List V) (v : V) → k < length nets
    → AreNetLines b fills labels (take k nets) (map f done) → AreLinesOfNet b fills labels (get_or nets k 0) (f v) → new ≡ done ++ v ∷ []
    → AreNetLines b fills labels (take (k + 1) nets) (map f new)
nets_more f b fills labels nets k done new v l h w e =
    subst (λ (z : List ℕ). AreNetLines b fills labels z (map f new)) (sym (take_more nets k 0 l))
    (subst (λ (z : List NetLines). AreNetLines b fills labels (take k nets ++ get_or nets k 0 ∷ []) z) (sym (ap (map f) e ∙ map_push f done v))
    (net_lines_push b fills labels (take k nets) (map f done) (get_or nets k 0) (f v) h w))

pub nets_end : {V : Type 0} (f : V → NetLines) (b : Board) (fills : List Made) (labels nets all : List ℕ) (k : ℕ) (done : List V) → length nets ≤ k → nets ≡ all
    → AreNetLines b fills labels (take k nets) (map f done) → AreNetLines b fills labels all (map f done)
nets_end f b fills labels nets all k done l e h =
    subst (λ (z : List ℕ). AreNetLines b fills labels z (map f done)) (take_all k nets l ∙ e) h
