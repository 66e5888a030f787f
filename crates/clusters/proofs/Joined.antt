-- Patches are linked exactly where their nodes are joined.
use Rattle.std.proofs.Common.{◌≡◌, refl, sym, ◌∙◌, ap, subst, ℕ, ◌+◌, ◌<◌, arith, inl, inr, true, List, [], ◌++◌, length, map, get_or}
use Rattle.std.specs.Prelude.{slice_get, Some, flat_map}
use Rattle.std.proofs.lemmas.Bool.{cases_lt}
use Rattle.std.proofs.lemmas.List.{get_or-map, length-map}
use Rattle.std.proofs.lemmas.Option.{same_Some, slice_get_within, slice_get-get_or}
use Rattle.plane.specs.Plane.{PlanePoint, Bounds, In, IsMeeting}
use Rattle.touching.specs.Laws.{CopperLaw}
use Rattle.touching.specs.Core.{InCopper}
use Rattle.hulls.specs.Hulls.{in_units}
use Rattle.hulls.specs.Laws.{CopperInHullsLaw}
use Rattle.classes.specs.Classes.{IsOneOf}
use Rattle.classes.proofs.Reaching.{reaches_map}
use Rattle.copper_shape.specs.Shapes.{Copper}
use Rattle.islands.proofs.Members.{any_one, none_in, one_front, one_back, one_split}
use Rattle.board_language.specs.Board.{Board}
use Rattle.board_language.specs.Copper.{has_layer, hulls_round}
use Rattle.board_language.proofs.Members.{one_of_flat, one_of_map, flat_one_of, map_one_of}
use Rattle.fill_rules.specs.Made.{Made}
use Rattle.fill_rules.specs.Nodes.{Node, nodes_of}
use Rattle.fill_rules.specs.Clusters.{node_net, node_layers, shapes_of, AreTouching, AreJoinedAt, AreClusters}
use Rattle.clusters.specs.declared.patch.Patch.{Patch}
use Rattle.clusters.specs.declared.patches.Owner.{Owner}
use Rattle.clusters.specs.Inner.Patches.{AreNodesLinkedBy}
use Rattle.clusters.specs.Inner.Copper.{IsInShapes, HaveSamePoints, patch_of, shape_patches, IsNodePatch, IsInPatch, AreNodePatches}
use Rattle.clusters.proofs.Ordered.{order_none, order_then}
use Rattle.spreading.specs.Labels.{AreLabels}

-- ---- links and joins

module _ (b : Board) (fills : List Made) (touch : CopperLaw) (count : ℕ) (ps : List Patch) (h : AreNodePatches b fills (nodes_of b fills) count ps) where
  common : (c d : Copper) → AreTouching c d → (q : PlanePoint) × InCopper c.core c.radius q × InCopper d.core d.radius q
  unfolding AreTouching
  common c d t = (touch c.radius d.radius c.core d.core).0 t

  touching : (c d : Copper) (q : PlanePoint) → InCopper c.core c.radius q → InCopper d.core d.radius q → AreTouching c d
  unfolding AreTouching
  touching c d q i j = (touch c.radius d.radius c.core d.core).1 (q, i, j)

  joined_of_link : (x y : ℕ) → AreNodesLinkedBy ps x y → AreJoinedAt b fills x y
  joined_of_link x y w =
      let f = h.each w.first w.one in
      let g = h.each w.second w.other in
      let q = common w.first.shape w.second.shape w.linked.touch in
      let c = f.points q.0 q.1 in
      let d = g.points q.0 q.2 in
      record {
        first = f.node;
        second = g.node;
        at_first = subst (λ (k : ℕ). slice_get (nodes_of b fills) k ≡ Some f.node) w.from f.at;
        at_second = subst (λ (k : ℕ). slice_get (nodes_of b fills) k ≡ Some g.node) w.to g.at;
        joined = record {
          net = sym f.net ∙ w.linked.net ∙ g.net;
          layer = (
            w.linked.layer.0,
            subst (λ s. has_layer s w.linked.layer.0 ≡ true) f.layers w.linked.layer.1,
            subst (λ s. has_layer s w.linked.layer.0 ≡ true) g.layers w.linked.layer.2,
          );
          touch = (c.0, d.0, c.1, d.1, touching c.0 d.0 q.0 c.2 d.2);
        };
      }

  -- the node of a patch is that of its number
  own_node : (x : ℕ) (n : Node) (p : Patch) (f : IsNodePatch b fills (nodes_of b fills) p) → p.node ≡ x → slice_get (nodes_of b fills) x ≡ Some n → f.node ≡ n
  own_node x n p f e at = same_Some f.node n (sym f.at ∙ ap (λ (k : ℕ). slice_get (nodes_of b fills) k) e ∙ at)

  link_of_joined : count ≡ length (nodes_of b fills) → (x y : ℕ) → AreJoinedAt b fills x y → AreNodesLinkedBy ps x y
  unfolding IsMeeting
  link_of_joined e x y w =
      let t = w.joined.touch in
      let q = common t.0 t.1 t.4 in
      let lx = slice_get_within (nodes_of b fills) x w.first w.at_first in
      let ly = slice_get_within (nodes_of b fills) y w.second w.at_second in
      let f = h.whole x w.first (omega (arith, e, lx)) w.at_first q.0 (t.0, t.2, q.1) in
      let g = h.whole y w.second (omega (arith, e, ly)) w.at_second q.0 (t.1, t.3, q.2) in
      let m = h.each f.patch f.one in
      let n = h.each g.patch g.one in
      let em = own_node x w.first f.patch m f.node w.at_first in
      let en = own_node y w.second g.patch n g.node w.at_second in
      record {
        first = f.patch;
        second = g.patch;
        one = f.one;
        other = g.one;
        from = f.node;
        to = g.node;
        linked = record {
          net = m.net ∙ ap (node_net b) em ∙ w.joined.net ∙ sym (n.net ∙ ap (node_net b) en);
          layer = (
            w.joined.layer.0,
            subst (λ s. has_layer s w.joined.layer.0 ≡ true) (sym (m.layers ∙ ap (node_layers b) em)) w.joined.layer.1,
            subst (λ s. has_layer s w.joined.layer.0 ≡ true) (sym (n.layers ∙ ap (node_layers b) en)) w.joined.layer.2,
          );
          meet = (in_units q.0, f.hull, g.hull);
          touch = touching f.patch.shape g.patch.shape q.0 f.shape g.shape;
        };
      }

  -- the least of what links reach is the least of a cluster
  pub clusters_are : (labels : List ℕ) → count ≡ length (nodes_of b fills) → AreLabels count (AreNodesLinkedBy ps) labels → AreClusters b fills labels
  clusters_are labels e a = record {
    each = a.each ∙ e;
    least = λ i l.
        let m = a.each in
        let w = a.least i (omega (arith, l, m)) in
        record {
          reached = reaches_map (AreNodesLinkedBy ps) (AreJoinedAt b fills) joined_of_link i (get_or labels i 0) w.reached;
          least = λ j r. w.least j (reaches_map (AreJoinedAt b fills) (AreNodesLinkedBy ps) (link_of_joined e) i j r);
        };
  }

-- ---- the patches of nodes, one after another

pub patches_none : (b : Board) (fills : List Made) (ns : List Node) → AreNodePatches b fills ns 0 []
patches_none b fills ns = record {
  order = order_none (λ (p : Patch). p.node);
  below = λ p i. absurd (none_in p i);
  each = λ p i. absurd (none_in p i);
  whole = λ k n l. absurd (omega (arith, l));
}

-- the node of number k as an owner
abbrev owner_of : Board → ℕ → Node → Owner
owner_of b k n = record { node = k; net = node_net b n; layers = node_layers b n }

module _ (b : Board) (fills : List Made) (hold : CopperInHullsLaw) (ns : List Node) (k : ℕ) (n : Node) (at : slice_get ns k ≡ Some n) (shapes : List Copper)
    (same : HaveSamePoints shapes (shapes_of b fills n)) where
  abbrev own : List Patch
  own = flat_map (shape_patches (owner_of b k n)) shapes

  -- a patch of the node
  patch_is : (p : Patch) → IsOneOf p (flat_map (shape_patches (owner_of b k n)) shapes) → (c : Copper) × (g : Bounds) × IsOneOf c shapes × (p ≡ patch_of (owner_of b k n) c g)
  patch_is p i =
      let c = one_of_flat (shape_patches (owner_of b k n)) p shapes i in
      let g = one_of_map (patch_of (owner_of b k n) c.0) p (hulls_round c.0) c.2 in
      (c.0, g.0, c.1, g.2)

  own_number : (p : Patch) → IsOneOf p (flat_map (shape_patches (owner_of b k n)) shapes) → p.node ≡ k
  own_number p i = ap (λ (z : Patch). z.node) (patch_is p i).3

  own_patch : (p : Patch) → IsOneOf p (flat_map (shape_patches (owner_of b k n)) shapes) → IsNodePatch b fills ns p
  unfolding HaveSamePoints
  own_patch p i =
      let w = patch_is p i in
      record {
        node = n;
        at = ap (λ (z : ℕ). slice_get ns z) (own_number p i) ∙ at;
        net = ap (λ (z : Patch). z.net) w.3;
        layers = ap (λ (z : Patch). z.layers) w.3;
        points = λ q j. (same q).0 (w.0, w.2, subst (λ (z : Patch). InCopper z.shape.core z.shape.radius q) w.3 j);
      }

  -- a point of the node is in one of its patches
  own_point : (q : PlanePoint) → IsInShapes (shapes_of b fills n) q → IsInPatch (flat_map (shape_patches (owner_of b k n)) shapes) k q
  unfolding HaveSamePoints
  own_point q i =
      let c = (same q).1 i in
      let g = (any_one (λ z. In z (in_units q)) (hulls_round c.0)).0 (hold c.0.core c.0.radius q c.2) in
      record {
        patch = patch_of (owner_of b k n) c.0 g.0;
        one = flat_one_of (shape_patches (owner_of b k n)) (patch_of (owner_of b k n) c.0 g.0) c.0 shapes c.1
            (map_one_of (patch_of (owner_of b k n) c.0) g.0 (hulls_round c.0) g.1);
        node = refl;
        shape = c.2;
        hull = g.2;
      }

  module _ (done : List Patch) (h : AreNodePatches b fills ns k done) where
    in_more : (x : ℕ) (q : PlanePoint) → IsInPatch done x q → IsInPatch (done ++ own) x q
    in_more x q w = record { patch = w.patch; one = one_front w.patch done own w.one; node = w.node; shape = w.shape; hull = w.hull }

    in_own : (x : ℕ) (q : PlanePoint) → k ≡ x → IsInPatch own k q → IsInPatch (done ++ own) x q
    in_own x q e w = record { patch = w.patch; one = one_back w.patch done own w.one; node = w.node ∙ e; shape = w.shape; hull = w.hull }

    whole : (x : ℕ) (m : Node) → x < k + 1 → slice_get ns x ≡ Some m → (q : PlanePoint) → IsInShapes (shapes_of b fills m) q → IsInPatch (done ++ own) x q
    whole x m l a q i = elim (cases_lt x k) [
      | inl lt ↦ in_more x q (h.whole x m lt a q i)
      | inr ge ↦ (
          let e : k ≡ x = omega (arith, l, ge) in
          let f : m ≡ n = same_Some m n (sym a ∙ ap (λ (z : ℕ). slice_get ns z) (sym e) ∙ at) in
          in_own x q e (own_point q (subst (λ (z : Node). IsInShapes (shapes_of b fills z) q) f i)))
    ]

    patches_then : AreNodePatches b fills ns (k + 1) (done ++ flat_map (shape_patches (owner_of b k n)) shapes)
    patches_then = record {
      order = order_then (λ (p : Patch). p.node) k done own h.below own_number h.order;
      below = λ p i. elim (one_split p done own i) [
        | inl j ↦ (let l = h.below p j in omega (arith, l))
        | inr j ↦ (let e = own_number p j in omega (arith, e))
      ];
      each = λ p i. elim (one_split p done own i) [ inl j ↦ h.each p j | inr j ↦ own_patch p j ];
      whole = whole;
    }

-- as it is read
pub net_read : {V : Type 0} (g : Node → ℕ) (f : V → Node) (vs : List V) (nets : List ℕ) (k : ℕ) (d : V) → nets ≡ map g (map f vs) → k < length vs → get_or nets k 0 ≡ g (f (get_or vs k d))
net_read g f vs nets k d e l =
    let m = length-map vs f in
    ap (λ (z : List ℕ). get_or z k 0) e ∙ get_or-map g (map f vs) k (f d) 0 (omega (arith, m, l)) ∙ ap g (get_or-map f vs k d (f d) l)

-- the node at a place
node_at : {V : Type 0} (f : V → Node) (vs : List V) (ns : List Node) (k : ℕ) (d : V) → map f vs ≡ ns → k < length vs → slice_get ns k ≡ Some (f (get_or vs k d))
node_at f vs ns k d e l =
    let m = length-map vs f in
    ap (λ (z : List Node). slice_get z k) (sym e) ∙ slice_get-get_or (map f vs) k (f d) (omega (arith, m, l)) ∙ ap (λ (z : Node). Some z) (get_or-map f vs k d (f d) l)

-- the patches of the next node, as they are made
pub patches_more : {V : Type 0} (b : Board) (fills : List Made) → CopperInHullsLaw → (f : V → Node) (vs : List V) (ns : List Node) (k : ℕ) (d : V) (net layers : ℕ) (shapes seen : List Copper)
    (done more new : List Patch) → map f vs ≡ ns → k < length vs → net ≡ node_net b (f (get_or vs k d)) → layers ≡ node_layers b (f (get_or vs k d))
    → HaveSamePoints shapes (shapes_of b fills (f (get_or vs k d))) → seen ≡ shapes → more ≡ flat_map (shape_patches (record { node = k; net = net; layers = layers })) seen
    → new ≡ done ++ more → AreNodePatches b fills ns k done → AreNodePatches b fills ns (k + 1) new
patches_more b fills hold f vs ns k d net layers shapes seen done more new e l en el same es em ea h =
    let n : Node = f (get_or vs k d) in
    let is : more ≡ flat_map (shape_patches (owner_of b k n)) shapes =
    em ∙ ap (λ (z : ℕ). flat_map (shape_patches (record { node = k; net = z; layers = layers })) seen) en
    ∙ ap (λ (z : ℕ). flat_map (shape_patches (record { node = k; net = node_net b n; layers = z })) seen) el
    ∙ ap (flat_map (shape_patches (owner_of b k n))) es in
    subst (λ (z : List Patch). AreNodePatches b fills ns (k + 1) z) (sym (ea ∙ ap (λ (z : List Patch). done ++ z) is))
    (patches_then b fills hold ns k n (node_at f vs ns k d e l) shapes same done h)
