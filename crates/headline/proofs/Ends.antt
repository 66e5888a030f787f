-- Each node has a place where a line of the ratsnest may end.
use Rattle.std.proofs.Common.{◌≡◌, refl, sym, ◌∙◌, ap, subst, arith, ℕ, zero, suc, ◌+◌, ◌<◌, inl, inr, Bool, List, [], ◌∷◌, length, map, get_or, slice_get}
use Rattle.std.specs.Prelude.{◌==◌, flat_map}
use Rattle.plane.specs.Plane.{Bounds}
use Rattle.plane.specs.Corners.{corners_of}
use Rattle.grid_num.specs.declared.Point.{Point}
use Rattle.classes.specs.Classes.{IsOneOf}
use Rattle.islands.proofs.Members.{one_place}
use Rattle.board_language.specs.declared.board.Track.{Track}
use Rattle.board_language.specs.declared.board.Via.{Via}
use Rattle.board_language.specs.declared.board.Pad.{Pad}
use Rattle.board_language.specs.Board.{Board}
use Rattle.board_language.proofs.Members.{one_of_append, one_of_flat, one_of_map, get_or_is}
use Rattle.fill_rules.specs.Tasks.{Task, tasks_from, ranked, task_zone}
use Rattle.fill_rules.specs.Made.{Made, no_fill}
use Rattle.fill_rules.specs.Nodes.{Node, pad, track, via, part, has_net, is_pad_node, passing_places, firsts_from, rank_in, made_of, part_nodes, nodes_of}
use Rattle.fill_rules.specs.Clusters.{option_list, labelled, part_pieces, least_of, node_ends}
use Rattle.fills.specs.Fills.{AreBoardFills}
use Rattle.headline.proofs.Places.{in_choice, either_choice, first_choice, later, here, eq_same, first_is}

abbrev pub HasEnd : Board → List Made → Node → Type 0
HasEnd b fills n = (p : Point) × IsOneOf p (node_ends b fills n)

-- ---- pads, tracks and vias

-- a place that passes is one of the list, counted from j
passing_within : {X : Type 0} (passes : X → Bool) (j k : ℕ) (xs : List X) → IsOneOf k (passing_places passes j xs) → (s : ℕ) × (k ≡ j + s) × (s < length xs)
unfolding IsOneOf
passing_within passes j k [] h = absurd h
passing_within passes j k (x ∷ xs) h =
    elim (in_choice (passes x) k (j ∷ passing_places passes (suc j) xs) (passing_places passes (suc j) xs) h) [
      | inl (e, inl f) ↦ (0, omega (arith, f), omega arith)
      | inl (e, inr m) ↦ further (passing_within passes (suc j) k xs m)
      | inr (e, m) ↦ further (passing_within passes (suc j) k xs m)
    ]
  where
    further : ((s : ℕ) × (k ≡ suc j + s) × (s < length xs)) → (s : ℕ) × (k ≡ j + s) × (s < length (x ∷ xs))
    further (s, e, l) = (suc s, omega (arith, e), omega (arith, l))

-- what is listed of the item at such a place is listed
listed_at : {X : Type 0} (passes : X → Bool) (f : X → List Point) (k : ℕ) (xs : List X) → IsOneOf k (passing_places passes 0 xs) → ((x : X) → (p : Point) × IsOneOf p (f x))
    → (p : Point) × IsOneOf p (option_list f (slice_get xs k))
listed_at passes f k xs h some =
    let r = passing_within passes 0 k xs h in
    let l : k < length xs = let e = r.1 in let m = r.2 in omega (arith, e, m) in
    go xs k l
  where
    go : (ys : List _) (i : ℕ) → i < length ys → (p : Point) × IsOneOf p (option_list f (slice_get ys i))
    go [] i l = absurd (omega (arith, l))
    go (y ∷ ys) zero l = some y
    go (y ∷ ys) (suc i) l = go ys i (omega (arith, l))

first_end : (p : Point) (ps : List Point) → (q : Point) × IsOneOf q (p ∷ ps)
first_end p ps = (p, here p p ps refl)

-- ---- parts

-- a fill has as many labels as pieces
labels_each : (b : Board) (fills : List Made) → AreBoardFills b fills → (t : Task) → length (made_of b fills t).parts ≡ length (made_of b fills t).pieces
labels_each b fills a t = get_or_is (λ (f : Made). length f.parts ≡ length f.pieces) fills (rank_in t (ranked b)) no_fill refl (λ f i. (let r = one_place f fills i in
    subst (λ (g : Made). length g.parts ≡ length g.pieces) (r.2 no_fill) (a.each r.0 r.1).parts.each))

-- the piece that begins a part is one of its pieces
begins : (first k : ℕ) (os : List Bounds) (labels : List ℕ) → length labels ≡ length os → k < length labels → get_or labels k 0 ≡ first → (o : Bounds) × IsOneOf o (labelled first os labels)
begins first k [] [] e l is = absurd (omega (arith, l))
begins first k [] (label ∷ labels) e l is = absurd (omega (arith, e))
begins first k (o ∷ os) [] e l is = absurd (omega (arith, l))
begins first zero (o ∷ os) (label ∷ labels) e l is =
    (o, first_choice (label == first) o _ _ (ap (λ n. n == first) is ∙ eq_same first) (here o o (labelled first os labels) refl))
begins first (suc k) (o ∷ os) (label ∷ labels) e l is =
    let r = begins first k os labels (omega (arith, e)) (omega (arith, l)) is in
    (r.0, either_choice (label == first) r.0 _ _ (later r.0 o _ r.1) r.1)

-- some octagons have a least corner
some_corner : (os : List Bounds) (o : Bounds) → IsOneOf o os → (p : Point) × IsOneOf p (least_of (flat_map corners_of os))
unfolding IsOneOf
some_corner [] o i = absurd i
some_corner (q ∷ os) o i = first_end _ []

part_end : (b : Board) (fills : List Made) → AreBoardFills b fills → (t : Task) (first : ℕ) → IsOneOf first (firsts_from 0 (made_of b fills t).parts) → HasEnd b fills (part t first)
unfolding node_ends part_pieces
part_end b fills a t first i =
    let f = first_is (made_of b fills t).parts first i in
    let o = begins first first (made_of b fills t).pieces (made_of b fills t).parts (labels_each b fills a t) f.0 f.1 in
    some_corner (labelled first (made_of b fills t).pieces (made_of b fills t).parts) o.0 o.1

of_part : (b : Board) (fills : List Made) → AreBoardFills b fills → (t : Task) (n : Node) → IsOneOf n (part_nodes b fills t) → HasEnd b fills n
unfolding IsOneOf
of_part b fills a t n h = elim (in_choice (has_net (task_zone b t).net) n (map (part t) (firsts_from 0 (made_of b fills t).parts)) [] h) [
  | inl (e, i) ↦
      let m = one_of_map (part t) n (firsts_from 0 (made_of b fills t).parts) i in
      subst (HasEnd b fills) (sym m.2) (part_end b fills a t m.0 m.1)
  | inr (e, i) ↦ absurd i
]

-- ---- all nodes

of_pad : (b : Board) (fills : List Made) (n : Node) → IsOneOf n (map pad (passing_places is_pad_node 0 b.pads)) → HasEnd b fills n
unfolding node_ends
of_pad b fills n i =
    let m = one_of_map pad n (passing_places is_pad_node 0 b.pads) i in
    subst (HasEnd b fills) (sym m.2) (listed_at is_pad_node (λ (p : Pad). p.at ∷ []) m.0 b.pads m.1 (λ p. first_end p.at []))

of_track : (b : Board) (fills : List Made) (n : Node) → IsOneOf n (map track (passing_places (λ (t : Track). has_net t.net) 0 b.tracks)) → HasEnd b fills n
unfolding node_ends
of_track b fills n i =
    let m = one_of_map track n (passing_places (λ (t : Track). has_net t.net) 0 b.tracks) i in
    subst (HasEnd b fills) (sym m.2)
    (listed_at (λ (t : Track). has_net t.net) (λ (t : Track). t.from ∷ t.to ∷ []) m.0 b.tracks m.1 (λ t. first_end t.from (t.to ∷ [])))

of_via : (b : Board) (fills : List Made) (n : Node) → IsOneOf n (map via (passing_places (λ (v : Via). has_net v.net) 0 b.vias)) → HasEnd b fills n
unfolding node_ends
of_via b fills n i =
    let m = one_of_map via n (passing_places (λ (v : Via). has_net v.net) 0 b.vias) i in
    subst (HasEnd b fills) (sym m.2) (listed_at (λ (v : Via). has_net v.net) (λ (v : Via). v.at ∷ []) m.0 b.vias m.1 (λ v. first_end v.at []))

pub has_end : (b : Board) (fills : List Made) → AreBoardFills b fills → (n : Node) → IsOneOf n (nodes_of b fills) → HasEnd b fills n
unfolding nodes_of
has_end b fills a n h = elim (one_of_append n (map pad (passing_places is_pad_node 0 b.pads)) _ h) [
  | inl i ↦ of_pad b fills n i
  | inr j ↦ elim (one_of_append n (map track (passing_places (λ (t : Track). has_net t.net) 0 b.tracks)) _ j) [
    | inl i ↦ of_track b fills n i
    | inr k ↦ elim (one_of_append n (map via (passing_places (λ (v : Via). has_net v.net) 0 b.vias)) _ k) [
      | inl i ↦ of_via b fills n i
      | inr i ↦ let f = one_of_flat (part_nodes b fills) n (tasks_from (length b.layers) 0 b.zones) i in of_part b fills a f.0 n f.2
    ]
  ]
]
