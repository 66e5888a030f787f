-- Anchors, node by node, and where they lie.
use Rattle.std.proofs.Common.{◌≡◌, refl, sym, ◌∙◌, ap, subst, ℕ, zero, suc, ◌+◌, ◌<◌, ◌≤◌, arith, Bool, true, false, cond, List, [], ◌∷◌, ◌++◌, length, map, get_or, drop, append_assoc, append-nil}
use Rattle.std.specs.Prelude.{slice_get, Option, Some, None, flat_map, zip, ◌==◌}
use Rattle.std.specs.List.{All}
use Rattle.std.proofs.lemmas.Int.{ints}
use Rattle.std.proofs.lemmas.Bool.Decides.{Decides-eqb}
use Rattle.std.proofs.lemmas.List.{drop_more, drop_all, get_or-map, length-map, get_or_read}
use Rattle.std.proofs.lemmas.List.Elements.{All-nil, All-cons}
use Rattle.std.proofs.lemmas.Option.{slice_get_within, get_or_from_slice_get}
use Rattle.plane.specs.Plane.{Bounds}
use Rattle.plane.specs.Corners.{corners_of}
use Rattle.grid_num.specs.declared.Point.{Point}
use Rattle.classes.specs.Classes.{IsOneOf}
use Rattle.cores.specs.Room.{IsInRoom}
use Rattle.islands.proofs.Members.{all_of, of_all}
use Rattle.ratsnest.specs.declared.Anchor.{Anchor}
use Rattle.ratsnest.specs.Ratsnest.{IsNearby}
use Rattle.board_language.specs.declared.board.Track.{Track}
use Rattle.board_language.specs.declared.board.Via.{Via}
use Rattle.board_language.specs.declared.board.Pad.{Pad}
use Rattle.board_language.specs.Board.{Board}
use Rattle.board_language.specs.Facts.{IsSoundBoard, IsSoundTrack, IsSoundVia, IsSoundPad}
use Rattle.board_language.proofs.Members.{one_of_flat, one_of_map}
use Rattle.fill_rules.specs.Made.{Made}
use Rattle.fill_rules.specs.Nodes.{Node, pad, track, via, part, nodes_of}
use Rattle.fill_rules.specs.Clusters.{option_list, part_pieces, least_of, least_point, in_nm, node_net, node_ends, node_anchors, net_anchors}
use Rattle.fills.specs.Fills.{AreBoardFills}
use Rattle.clusters.specs.Labelling.{IsEndInRange}
use Rattle.clusters.proofs.Rooms.{IsNearPiece, part_near}
use Rattle.clusters.proofs.Corners.{least_is, corner_near}

-- ---- where ends lie

abbrev IsNearEnd : Point → Type 0
IsNearEnd p = IsInRoom 500000000 p

of_some : {X : Type 0} (f : X → List Point) (o : Option X) → ((x : X) → o ≡ Some x → All IsNearEnd (f x)) → All IsNearEnd (option_list f o)
of_some f None h = All-nil IsNearEnd
of_some f (Some x) h = h x refl

of_option : {X : Type 0} (P : X → Type 0) (f : X → List Point) (xs : List X) (k : ℕ) → All P xs → ((x : X) → P x → All IsNearEnd (f x)) → All IsNearEnd (option_list f (slice_get xs k))
of_option P f xs k all go = of_some f (slice_get xs k) (λ x e. go x (subst P (get_or_from_slice_get xs k x x e) (all k x (slice_get_within xs k x e))))

one : (p : Point) → IsNearEnd p → All IsNearEnd (p ∷ [])
one p h = All-cons IsNearEnd p [] h (All-nil IsNearEnd)

doubled : (p : Point) → IsInRoom 250000000 p → IsNearEnd (in_nm p)
doubled p h = record {
  x = record { low = omega (arith, ints, h.x.low); high = omega (arith, ints, h.x.high) };
  y = record { low = omega (arith, ints, h.y.low); high = omega (arith, ints, h.y.high) };
}

of_corners : (os : List Bounds) → ((o : Bounds) → IsOneOf o os → IsNearPiece o) → All IsNearEnd (least_of (flat_map corners_of os))
of_corners os near = go (flat_map corners_of os) (λ p i. let r = one_of_flat corners_of p os i in corner_near r.0 (near r.0 r.1) p r.2)
  where
    go : (ps : List Point) → ((p : Point) → IsOneOf p ps → IsInRoom 250000000 p) → All IsNearEnd (least_of ps)
    go [] h = All-nil IsNearEnd
    go (p ∷ ps) h = one (in_nm (least_point p ps)) (doubled (least_point p ps) (h (least_point p ps) (least_is p ps).one))

ends_near : (b : Board) → IsSoundBoard b → (fills : List Made) → AreBoardFills b fills → (n : Node) → All IsNearEnd (node_ends b fills n)
unfolding node_ends
ends_near b s fills h (pad k) = of_option (IsSoundPad (length b.layers)) (λ (p : Pad). p.at ∷ []) b.pads k s.pads (λ p i. one p.at i.at)
ends_near b s fills h (track k) = of_option (IsSoundTrack (length b.layers)) (λ (t : Track). t.from ∷ t.to ∷ []) b.tracks k s.tracks
    (λ t i. All-cons IsNearEnd t.from (t.to ∷ []) i.from (one t.to i.to))
ends_near b s fills h (via k) = of_option (IsSoundVia (length b.layers)) (λ (v : Via). v.at ∷ []) b.vias k s.vias (λ v i. one v.at i.at)
ends_near b s fills h (part t first) = of_corners (part_pieces b fills t first) (part_near b s fills h t first)

-- ---- anchors

abbrev anchor_at : ℕ → Point → Anchor
anchor_at cluster p = record { at = p; cluster = cluster }

of_cond : {A : Type 0} (t : Bool) (x : A) (xs : List A) → IsOneOf x (cond t xs []) → IsOneOf x xs
unfolding IsOneOf
of_cond true x xs i = i
of_cond false x xs i = absurd i

anchor_near : (b : Board) → IsSoundBoard b → (fills : List Made) → AreBoardFills b fills → (labels : List ℕ) (net : ℕ) (a : Anchor) → IsOneOf a (net_anchors b fills labels net) → IsNearEnd a.at
unfolding net_anchors
anchor_near b s fills h labels net a i =
    let r = one_of_flat (node_anchors b fills net) a (zip (nodes_of b fills) labels) i in
    let j = of_cond (node_net b r.0.0 == net) a (map (anchor_at r.0.1) (node_ends b fills r.0.0)) r.2 in
    let p = one_of_map (anchor_at r.0.1) a (node_ends b fills r.0.0) j in
    subst (λ (z : Anchor). IsNearEnd z.at) (sym p.2) (of_all IsNearEnd (node_ends b fills r.0.0) (ends_near b s fills h r.0.0) p.0 p.1)

pub anchors_range : (b : Board) → IsSoundBoard b → (fills : List Made) → AreBoardFills b fills → (labels : List ℕ) (net : ℕ) (as_ : List Anchor) → as_ ≡ net_anchors b fills labels net
    → All IsEndInRange as_
anchors_range b s fills h labels net as_ e =
    subst (All IsEndInRange) (sym e)
    (all_of IsEndInRange (net_anchors b fills labels net)
    (λ a i. let n = anchor_near b s fills h labels net a i in ((n.x.low, n.x.high), (n.y.low, n.y.high))))

pub anchors_nearby : (as_ : List Anchor) → All IsEndInRange as_ → All IsNearby as_
anchors_nearby as_ h = λ k d l. (let r = h k d l in record {
  x_low = omega (arith, ints, r.0.0);
  x_high = omega (arith, ints, r.0.1);
  y_low = omega (arith, ints, r.1.0);
  y_high = omega (arith, ints, r.1.1);
})

-- ---- node by node

module _ {V : Type 0} (b : Board) (fills : List Made) (net : ℕ) (f : V → Node) (vs : List V) (ns : List Node) (labels : List ℕ) (k : ℕ) (v : V) (label : ℕ)
    (en : map f vs ≡ ns) (l : k < length vs) (ll : k < length labels) (ev : v ≡ get_or vs k v) (el : label ≡ get_or labels k 0) where
  abbrev F : (Node × ℕ) → List Anchor
  F = node_anchors b fills net

  abbrev left : List Anchor
  left = flat_map F (zip (drop (k + 1) ns) (drop (k + 1) labels))

  opened : flat_map F (zip (drop k ns) (drop k labels)) ≡ F (f v, label) ++ flat_map F (zip (drop (k + 1) ns) (drop (k + 1) labels))
  opened =
      let lt : k < length ns = (let a = length-map vs f in let c = ap (λ (z : List Node). length z) en in omega (arith, l, a, c)) in
      let at : get_or ns k (f v) ≡ f v = ap (λ (z : List Node). get_or z k (f v)) (sym en) ∙ get_or-map f vs k v (f v) l ∙ ap f (sym ev) in
      ap (λ (z : List Node). flat_map F (zip z (drop k labels))) (drop_more ns k (f v) lt ∙ ap (λ (n : Node). n ∷ drop (k + 1) ns) at)
      ∙ ap (λ (z : List ℕ). flat_map F (zip (f v ∷ drop (k + 1) ns) z)) (drop_more labels k 0 ll ∙ ap (λ (n : ℕ). n ∷ drop (k + 1) labels) (sym el))

  pub anchors_yes : (own : ℕ) (ends : List Point) (done new all : List Anchor) → own ≡ node_net b (f v) → own ≡ net → ends ≡ node_ends b fills (f v)
      → new ≡ done ++ map (anchor_at label) ends → done ++ flat_map F (zip (drop k ns) (drop k labels)) ≡ all → new ++ flat_map F (zip (drop (k + 1) ns) (drop (k + 1) labels)) ≡ all
  anchors_yes own ends done new all eo e ee ea h =
      let t : (node_net b (f v) == net) ≡ true = (Decides-eqb (node_net b (f v)) net).1 (sym eo ∙ e) in
      let m : F (f v, label) ≡ map (anchor_at label) (node_ends b fills (f v)) = ap (λ (z : Bool). cond z (map (anchor_at label) (node_ends b fills (f v))) []) t in
      ap (λ (z : List Anchor). z ++ left) (ea ∙ ap (λ (z : List Point). done ++ map (anchor_at label) z) ee ∙ ap (λ (z : List Anchor). done ++ z) (sym m))
      ∙ append_assoc done (F (f v, label)) left ∙ ap (λ (z : List Anchor). done ++ z) (sym opened) ∙ h

  pub anchors_no : (own : ℕ) (done all : List Anchor) → own ≡ node_net b (f v) → (own ≡ net → ⊥)
      → done ++ flat_map F (zip (drop k ns) (drop k labels)) ≡ all → done ++ flat_map F (zip (drop (k + 1) ns) (drop (k + 1) labels)) ≡ all
  anchors_no own done all eo n h =
      let t : (node_net b (f v) == net) ≡ false = not_true (node_net b (f v) == net) (λ e. n (eo ∙ (Decides-eqb (node_net b (f v)) net).0 e)) in
      let m : F (f v, label) ≡ [] = ap (λ (z : Bool). cond z (map (anchor_at label) (node_ends b fills (f v))) []) t in
      ap (λ (z : List Anchor). done ++ z) (sym (opened ∙ ap (λ (z : List Anchor). z ++ left) m)) ∙ h
    where
      not_true : (t : Bool) → (t ≡ true → ⊥) → t ≡ false
      not_true true g = absurd (g refl)
      not_true false g = refl

pub anchors_end : (b : Board) (fills : List Made) (net : ℕ) (ns : List Node) (labels : List ℕ) (k : ℕ) (done all : List Anchor) → length ns ≤ k
    → done ++ flat_map (node_anchors b fills net) (zip (drop k ns) (drop k labels)) ≡ all → done ≡ all
anchors_end b fills net ns labels k done all l h =
    sym (append-nil done) ∙ ap (λ (z : List Node). done ++ flat_map (node_anchors b fills net) (zip z (drop k labels))) (sym (drop_all k ns l)) ∙ h

-- the item at a place
one_at_place : {V : Type 0} (vs : List V) (k : ℕ) → k < length vs → (v : V) × (v ≡ get_or vs k v)
one_at_place [] k l = absurd (omega (arith, l))
one_at_place (v ∷ vs) zero l = (v, refl)
one_at_place (v ∷ vs) (suc k) l = one_at_place vs k (omega (arith, l))

-- as a labelling is read
module _ {V : Type 0} (b : Board) (fills : List Made) (net : ℕ) (f : V → Node) (vs : List V) (ns : List Node) (nets labels : List ℕ) (k : ℕ) where
  in_labels : map f vs ≡ ns → length labels ≡ length ns → k < length vs → k < length labels
  in_labels en el l = let a = length-map vs f in let c = ap (λ (z : List Node). length z) en in omega (arith, a, c, el, l)

  -- the net of the node
  net_is : (v : V) (own : ℕ) → map f vs ≡ ns → nets ≡ map (node_net b) ns → k < length vs → v ≡ get_or vs k v → own ≡ get_or nets k own → own ≡ node_net b (f v)
  net_is v own en e l ev eo =
      let a = length-map vs f in
      let c = ap (λ (z : List Node). length z) en in
      let m : k < length ns = omega (arith, a, c, l) in
      eo ∙ ap (λ (z : List ℕ). get_or z k own) e ∙ get_or-map (node_net b) ns k (f v) own m
      ∙ ap (λ (z : List Node). node_net b (get_or z k (f v))) (sym en) ∙ ap (node_net b) (get_or-map f vs k v (f v) l ∙ ap f (sym ev))

  pub anchors_step : (v : V) (label own : ℕ) → map f vs ≡ ns → nets ≡ map (node_net b) ns → length labels ≡ length ns → k < length vs → v ≡ get_or vs k v → label ≡ get_or labels k label
      → own ≡ get_or nets k own → (ends seen : List Point) (done new all : List Anchor) → own ≡ net → ends ≡ node_ends b fills (f v) → seen ≡ ends → new ≡ done ++ map (anchor_at label) seen
      → done ++ flat_map (node_anchors b fills net) (zip (drop k ns) (drop k labels)) ≡ all → new ++ flat_map (node_anchors b fills net) (zip (drop (k + 1) ns) (drop (k + 1) labels)) ≡ all
  anchors_step v label own en e el l ev ea eo ends seen done new all s ee es em h =
      let m = in_labels en el l in
      anchors_yes b fills net f vs ns labels k v label en l m ev (get_or_read labels k label m ea 0) own seen done new all (net_is v own en e l ev eo) s (es ∙ ee) em h

  pub anchors_stay : (own : ℕ) → map f vs ≡ ns → nets ≡ map (node_net b) ns → length labels ≡ length ns → k < length vs → own ≡ get_or nets k own
      → (done all : List Anchor) → (own ≡ net → ⊥)
      → done ++ flat_map (node_anchors b fills net) (zip (drop k ns) (drop k labels)) ≡ all → done ++ flat_map (node_anchors b fills net) (zip (drop (k + 1) ns) (drop (k + 1) labels)) ≡ all
  anchors_stay own en e el l eo done all s h =
      let m = in_labels en el l in
      let at = one_at_place vs k l in
      anchors_no b fills net f vs ns labels k at.0 (get_or labels k 0) en l m at.1 refl own done all (net_is at.0 own en e l at.1 eo) s h
