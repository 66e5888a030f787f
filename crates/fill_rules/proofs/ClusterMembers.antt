-- What the list of nodes holds.
use Rattle.std.proofs.Common.{◌≡◌, refl, sym, subst, map, ℕ, zero, suc, ◌+◌, ◌≤◌, ◌⊎◌, inl, inr, arith, List, [], ◌∷◌, ◌++◌, length, slice_get, Some}
use Rattle.std.proofs.lemmas.Bool.{false≢true}
use Rattle.std.specs.Prelude.{Bool, true, false, cond, ◌&&◌, flat_map}
use Rattle.classes.specs.Classes.{IsOneOf}
use Rattle.board_language.specs.declared.board.Track.{Track}
use Rattle.board_language.specs.declared.board.Via.{Via}
use Rattle.board_language.specs.declared.board.Pad.{Pad}
use Rattle.board_language.specs.Board.{Board}
use Rattle.fill_rules.specs.Tasks.{Task, tasks_from, task_zone}
use Rattle.board_language.proofs.Members.{one_of_append, one_of_flat, one_of_map}
use Rattle.fill_rules.specs.Made.{Made}
use Rattle.fill_rules.specs.Nodes.{Node, pad, track, via, part, made_of, nodes_of, passing_places, has_net, is_copper_kind, is_pad_node, part_nodes, firsts_from}
use Rattle.fill_rules.specs.Clusters.{node_net, option_or_zero}
use Rattle.fill_rules.specs.ClusterLaws.{NodeLaw}

one_of_cond : {A : Type 0} (b : Bool) (x : A) (xs ys : List A) → IsOneOf x (cond b xs ys) → ((b ≡ true) × IsOneOf x xs) ⊎ IsOneOf x ys
one_of_cond true x xs ys h = inl (refl, h)
one_of_cond false x xs ys h = inr h

-- the item at place k, counted from s, passes
record IsPlace {X : Type 0} (passes : X → Bool) (s : ℕ) (xs : List X) (k : ℕ) : Type 0 where
  steps : ℕ
  item : X
  place : k ≡ s + steps
  at : slice_get xs steps ≡ Some item
  pass : passes item ≡ true

one_on : {X : Type 0} (passes : X → Bool) (s : ℕ) (x : X) (xs : List X) (k : ℕ) → IsPlace passes (suc s) xs k → IsPlace passes s (x ∷ xs) k
one_on passes s x xs k h =
    let p : k ≡ suc s + h.steps = h.place in
    record { steps = suc h.steps; item = h.item; place = omega (arith, p); at = h.at; pass = h.pass }

places_are : {X : Type 0} (passes : X → Bool) (s : ℕ) (xs : List X) (k : ℕ) → IsOneOf k (passing_places passes s xs) → IsPlace passes s xs k
unfolding IsOneOf
places_are passes s [] k h = absurd h
places_are passes s (x ∷ xs) k h = elim (one_of_cond (passes x) k (s ∷ passing_places passes (suc s) xs) (passing_places passes (suc s) xs) h) [
  | inl (e, inl p) ↦ record { steps = 0; item = x; place = omega (arith, p); at = refl; pass = e }
  | inl (e, inr i) ↦ one_on passes s x xs k (places_are passes (suc s) xs k i)
  | inr i ↦ one_on passes s x xs k (places_are passes (suc s) xs k i)
]

from_start : {X : Type 0} (passes : X → Bool) (xs : List X) (k : ℕ) (h : IsPlace passes 0 xs k) → slice_get xs k ≡ Some h.item
from_start passes xs k h = let e : k ≡ h.steps = omega (arith, h.place) in subst (λ j. slice_get xs j ≡ Some h.item) (sym e) h.at

one_or_more : (n : ℕ) → has_net n ≡ true → 1 ≤ n
one_or_more zero e = absurd (false≢true e)
one_or_more (suc n) e = omega arith

first_of_both : (a b : Bool) → (a && b) ≡ true → a ≡ true
first_of_both true b e = refl
first_of_both false b e = absurd (false≢true e)

placed : {X : Type 0} (number : X → ℕ) (passes : X → Bool) (xs : List X) (k : ℕ) → ((x : X) → passes x ≡ true → has_net (number x) ≡ true) → IsOneOf k (passing_places passes 0 xs)
    → 1 ≤ option_or_zero number (slice_get xs k)
placed number passes xs k all i =
    let h = places_are passes 0 xs k i in
    subst (λ o. 1 ≤ option_or_zero number o) (sym (from_start passes xs k h)) (one_or_more (number h.item) (all h.item h.pass))

numbered : (b : Board) (fills : List Made) (ts : List Task) (n : Node) → IsOneOf n (flat_map (part_nodes b fills) ts) → 1 ≤ node_net b n
unfolding node_net IsOneOf
numbered b fills ts n h =
    let r = one_of_flat (part_nodes b fills) n ts h in
    elim (one_of_cond (has_net (task_zone b r.0).net) n (map (part r.0) (firsts_from 0 (made_of b fills r.0).parts)) [] r.2) [
      | inl (e, i) ↦
          let m = one_of_map (part r.0) n (firsts_from 0 (made_of b fills r.0).parts) i in
          subst (λ x. 1 ≤ node_net b x) (sym m.2) (one_or_more (task_zone b r.0).net e)
      | inr i ↦ absurd i
    ]

pub node_law : NodeLaw
unfolding nodes_of node_net
node_law b fills n h = elim (one_of_append n pads (tracks ++ (vias ++ fills_nodes)) h) [
  | inl i ↦
      let m = one_of_map pad n (passing_places is_pad_node 0 b.pads) i in
      subst (λ x. 1 ≤ node_net b x) (sym m.2) (placed (λ (p : Pad). p.net) is_pad_node b.pads m.0 (λ p e. first_of_both (has_net p.net) (is_copper_kind p.kind) e) m.1)
  | inr j ↦ elim (one_of_append n tracks (vias ++ fills_nodes) j) [
    | inl i ↦
        let m = one_of_map track n (passing_places (λ (t : Track). has_net t.net) 0 b.tracks) i in
        subst (λ x. 1 ≤ node_net b x) (sym m.2) (placed (λ (t : Track). t.net) (λ (t : Track). has_net t.net) b.tracks m.0 (λ t e. e) m.1)
    | inr k ↦ elim (one_of_append n vias fills_nodes k) [
      | inl i ↦
          let m = one_of_map via n (passing_places (λ (v : Via). has_net v.net) 0 b.vias) i in
          subst (λ x. 1 ≤ node_net b x) (sym m.2) (placed (λ (v : Via). v.net) (λ (v : Via). has_net v.net) b.vias m.0 (λ v e. e) m.1)
      | inr i ↦ numbered b fills (tasks_from (length b.layers) 0 b.zones) n i
    ]
  ]
]
  where
    pads : List Node
    pads = map pad (passing_places is_pad_node 0 b.pads)

    tracks : List Node
    tracks = map track (passing_places (λ (t : Track). has_net t.net) 0 b.tracks)

    vias : List Node
    vias = map via (passing_places (λ (v : Via). has_net v.net) 0 b.vias)

    fills_nodes : List Node
    fills_nodes = flat_map (part_nodes b fills) (tasks_from (length b.layers) 0 b.zones)
