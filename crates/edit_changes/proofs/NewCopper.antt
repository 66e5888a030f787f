-- The board with a new track or via.
use Rattle.std.proofs.Common.{◌≡◌, ◌∙◌, refl, ap, sym, subst, ℕ, true, false, List, [], ◌∷◌, ◌++◌, map, length, codes, Option, Some}
use Rattle.std.specs.Prelude.{flat_map}
use Rattle.std.proofs.lemmas.Slice.Eq.{bytes_eq-Decides}
use Rattle.sexpr_text.specs.Items.{Item, is_headed}
use Rattle.sexpr_text.specs.Trees.{IsRoot}
use Rattle.board_text.specs.Lists.{lists_of}
use Rattle.board_text.specs.Fields.{is_text}
use Rattle.board_text.specs.Items.{Context, context_of}
use Rattle.board_text.specs.Things.{Placed, Root, OnBoard, Thing, thing_of, on_board, with_own, items_of_board}
use Rattle.board_text.specs.Things as things
use Rattle.board_language.specs.declared.board.Track.{Track}
use Rattle.board_language.specs.declared.board.Via.{Via}
use Rattle.board_language.specs.declared.board.Rules.{Rules}
use Rattle.board_language.specs.Board.{Board}
use Rattle.board_language.specs.Tracks.{track_of, via_of}
use Rattle.board_language.specs.Offences.{stamp_as}
use Rattle.board_language.specs.Reading.{all_of, track_from, via_from, board_of, IsAccepted}
use Rattle.board_language.specs.Stamps.{stamped_as, stamped_behind}
use Rattle.fill_rules.specs.Edits.{unplaced, unplaced_via}
use Rattle.text_shapes.specs.Seen.{ItemSeen, item_seen}
use Rattle.text_shapes.proofs.Seen.{heads, heads_seen}
use Rattle.same_boards.specs.Contents.{Each}
use Rattle.same_boards.specs.Alike.{unplaced_zone}
use Rattle.same_boards.proofs.Fields.{Same}
use Rattle.same_boards.proofs.Roots.{other_headed}
use Rattle.edit_language.proofs.Stamps.{track_stamp, via_stamp}
use Rattle.dirty_rules.specs.Dirty.{HasTrack, HasVia}
use Rattle.edit_changes.specs.Changes.{HaveSameRest, IsTrackAdded, IsViaAdded}
use Rattle.edit_changes.proofs.Lines.{stamp_seen, stamp_is}
use Rattle.edit_changes.proofs.Patches.{ArePatched, AreMatched, matched, items_of_lists, same_head, same_tail, none_some}
use Rattle.edit_changes.proofs.Boards.{flat_append, GivesAlone, part_of_board, AreBoardsSpliced, spliced_boards, appended_is, same_spliced}
use Rattle.edit_changes.proofs.Things.{items_alone, thing_there, track_thing, via_thing, gives_none, gives_track, gives_via}
use Rattle.edit_changes.proofs.Bearers.{IsBearer, bearer_there}

pub no_list : {X Y : Type 0} (f : X → Y) (xs : List X) → map f xs ≡ [] → xs ≡ []
no_list f [] e = refl
no_list f (x ∷ xs) e = absurd (none_some (sym e))

pub one_list : {X Y : Type 0} (f : X → Y) (xs : List X) (y : Y) → map f xs ≡ y ∷ [] → (x : X) × (xs ≡ x ∷ []) × (f x ≡ y)
one_list f [] y e = absurd (none_some e)
one_list f (x ∷ xs) y e = (x, ap (λ z. x ∷ z) (no_list f xs (same_tail e)), same_head e)

none_each : {X Y : Type 0} (R : X → Y → Type 0) (xs : List X) (ys : List Y) → xs ≡ [] → Each R xs ys → ys ≡ []
none_each R [] [] e h = refl
none_each R [] (y ∷ ys) e h = absurd h
none_each R (x ∷ xs) ys e h = absurd (none_some (sym e))

pub same_rest : (b d before behind : Board) (ts ts2 : List Track) (ws ws2 : List Via) (zs zs2 : List Rattle.board_language.specs.declared.board.Zone.Zone)
    → AreBoardsSpliced b d before behind ts ts2 ws ws2 zs zs2 → HaveSameRest b d
same_rest b d before behind ts ts2 ws ws2 zs zs2 a = record { layers = a.layers; nets = a.nets; pads = a.pads; areas = a.areas; edges = a.edges; rules = a.rules }

is_stamp : (stamp : List ℕ) (o : Option (List ℕ)) → o ≡ Some stamp → is_text stamp o ≡ true
is_stamp stamp o e = ap (is_text stamp) e ∙ (bytes_eq-Decides stamp stamp).1 refl

-- the board's items where a list that is no footprint stands last
items_end : (text : List ℕ) (root i : Item) (us : List Item) → lists_of root ≡ us ++ i ∷ [] → is_headed text (codes "footprint") i ≡ false
    → items_of_board text root ≡ (record { item = root; site = Root } ∷ items_of_lists text us) ++ record { item = i; site = OnBoard } ∷ []
unfolding items_of_board
items_end text root i us e h =
    ap (λ z. record { item = root; site = Root } ∷ flat_map (with_own text) z) e
    ∙ ap (λ z. record { item = root; site = Root } ∷ z) (flat_append (with_own text) us (i ∷ []) ∙ ap (λ z. items_of_lists text us ++ z) (items_alone text i h))

module _ (text new : List ℕ) (root last : Item) (rules : Rules) (front : List ItemSeen) (x : ItemSeen) (p : ArePatched text new root last front [] (x ∷ []) []) where
  abbrev m : AreMatched text new root last front [] (x ∷ []) []
  m = matched text new root last front [] (x ∷ []) [] p

  -- the new list
  j : (i : Item) × (m.ns ≡ i ∷ []) × (item_seen new i ≡ x)
  j = one_list (item_seen new) m.ns x m.put_is

  ends : m.ys ≡ []
  ends = no_list (item_seen text) m.ys m.ends_is

  stands_last : lists_of last ≡ m.us ++ j.0 ∷ []
  stands_last = m.new ∙ ap (λ z. m.us ++ (z ++ m.vs)) j.1 ∙ ap (λ z. m.us ++ j.0 ∷ z) (none_each (Same text new) m.ys m.vs ends m.behind)

  head_is : (name : List ℕ) → heads name x ≡ true → is_headed new name j.0 ≡ true
  head_is name h = heads_seen new name j.0 ∙ ap (heads name) j.2 ∙ h

  no_out : m.ms ≡ []
  no_out = no_list (item_seen text) m.ms m.out_is

  before : List Placed
  before = record { item = last; site = Root } ∷ items_of_lists new m.us

  bearer : (stamp : List ℕ) (t : Thing) → IsAccepted new last → on_board new j.0 ≡ t → is_headed new (codes "footprint") j.0 ≡ false → is_text stamp (stamp_as new j.0 t) ≡ true
      → IsBearer new last stamp before (record { item = j.0; site = OnBoard })
  unfolding before
  bearer stamp t ok e f h =
      bearer_there new last stamp (record { item = last; site = Root } ∷ items_of_lists new m.us) [] (record { item = j.0; site = OnBoard }) ok (items_end new last j.0 m.us stands_last f)
      (ap (λ u. is_text stamp (stamp_as new j.0 u)) (thing_there new j.0 t e) ∙ h)

  stamp_of_new : (stamp : List ℕ) → stamp_seen x ≡ Some stamp → is_text stamp (Rattle.board_text.specs.Items.stamp_in new j.0) ≡ true
  stamp_of_new stamp e = is_stamp stamp (Rattle.board_text.specs.Items.stamp_in new j.0) (stamp_is new j.0 ∙ ap stamp_seen j.2 ∙ e)

  -- ---- a track
  module _ (h : heads (codes "segment") x ≡ true) where
    tracks_spliced : AreBoardsSpliced (board_of text root rules) (board_of new last rules) (part_of_board (context_of text root) m.xs rules) (part_of_board (context_of text root) m.ys rules)
        [] (track_of (context_of new last) j.0 ∷ []) [] [] [] []
    unfolding context_of
    tracks_spliced =
        spliced_boards text new root last rules front [] (x ∷ []) [] p m [] (track_of (context_of new last) j.0 ∷ []) [] [] [] []
        (subst (λ z. GivesAlone (context_of text root) z rules [] [] []) (sym no_out) (gives_none (context_of text root) rules))
        (subst (λ z. GivesAlone (context_of new last) z rules (track_of (context_of new last) j.0 ∷ []) [] []) (sym j.1) (gives_track (context_of new last) j.0 rules (head_is (codes "segment") h)))

    has_track : (stamp : List ℕ) → IsRoot new last → IsAccepted new last → stamp_seen x ≡ Some stamp → HasTrack new rules stamp (track_of (context_of new last) j.0)
    unfolding context_of stamped_behind
    has_track stamp l ok s =
        let e = track_thing new j.0 (head_is (codes "segment") h) in
        let f = other_headed new new (codes "segment") (codes "footprint") refl j.0 (head_is (codes "segment") h) in
        let b = bearer stamp things.Track ok e f (stamp_of_new stamp s) in
        let k = b.stamped ∙ ap (λ u. Some (stamped_as (context_of new last) before j.0 u)) (thing_there new j.0 things.Track e) in
        record {
          root = last;
          is_root = l;
          number = length (all_of track_from (context_of new last) before);
          stamped = k;
          is = track_stamp new last rules stamp (length (all_of track_from (context_of new last) before)) (record { item = j.0; site = OnBoard }) k b.bearer;
        }

    pub track_added : (stamp : List ℕ) (named : List (List ℕ) → Track) → ((z : Item) → item_seen new z ≡ x → unplaced (track_of (context_of new last) z) ≡ named (board_of new last rules).layers)
        → IsRoot new last → IsAccepted new last → stamp_seen x ≡ Some stamp → IsTrackAdded new rules stamp (named (board_of text root rules).layers) (board_of text root rules) (board_of new last rules)
    track_added stamp named f l ok s =
        let a = tracks_spliced in
        let n : unplaced (track_of (context_of new last) j.0) ≡ named (board_of text root rules).layers = f j.0 j.2 ∙ ap named (sym a.layers) in
        record {
          track = track_of (context_of new last) j.0;
          is = has_track stamp l ok s;
          is_named = n;
          tracks = appended_is unplaced _ _ _ _ (unplaced (track_of (context_of new last) j.0)) a.tracks
              (ap (λ z. map unplaced (part_of_board (context_of text root) z rules).tracks) ends)
              ∙ ap (λ z. map unplaced (board_of text root rules).tracks ++ z ∷ []) n;
          vias = same_spliced unplaced_via _ _ _ _ a.vias;
          zones = same_spliced unplaced_zone _ _ _ _ a.zones;
          rest = same_rest _ _ _ _ _ _ _ _ _ _ a;
        }

  -- ---- a via
  module _ (h : heads (codes "via") x ≡ true) where
    vias_spliced : AreBoardsSpliced (board_of text root rules) (board_of new last rules) (part_of_board (context_of text root) m.xs rules) (part_of_board (context_of text root) m.ys rules)
        [] [] [] (via_of (context_of new last) j.0 ∷ []) [] []
    unfolding context_of
    vias_spliced =
        spliced_boards text new root last rules front [] (x ∷ []) [] p m [] [] [] (via_of (context_of new last) j.0 ∷ []) [] []
        (subst (λ z. GivesAlone (context_of text root) z rules [] [] []) (sym no_out) (gives_none (context_of text root) rules))
        (subst (λ z. GivesAlone (context_of new last) z rules [] (via_of (context_of new last) j.0 ∷ []) []) (sym j.1) (gives_via (context_of new last) j.0 rules (head_is (codes "via") h)))

    has_via : (stamp : List ℕ) → IsRoot new last → IsAccepted new last → stamp_seen x ≡ Some stamp → HasVia new rules stamp (via_of (context_of new last) j.0)
    unfolding context_of stamped_behind
    has_via stamp l ok s =
        let e = via_thing new j.0 (head_is (codes "via") h) in
        let f = other_headed new new (codes "via") (codes "footprint") refl j.0 (head_is (codes "via") h) in
        let b = bearer stamp things.Via ok e f (stamp_of_new stamp s) in
        let k = b.stamped ∙ ap (λ u. Some (stamped_as (context_of new last) before j.0 u)) (thing_there new j.0 things.Via e) in
        record {
          root = last;
          is_root = l;
          number = length (all_of via_from (context_of new last) before);
          stamped = k;
          is = via_stamp new last rules stamp (length (all_of via_from (context_of new last) before)) (record { item = j.0; site = OnBoard }) k b.bearer;
        }

    pub via_added : (stamp : List ℕ) (named : List (List ℕ) → Via) → ((z : Item) → item_seen new z ≡ x → unplaced_via (via_of (context_of new last) z) ≡ named (board_of new last rules).layers)
        → IsRoot new last → IsAccepted new last → stamp_seen x ≡ Some stamp → IsViaAdded new rules stamp (named (board_of text root rules).layers) (board_of text root rules) (board_of new last rules)
    via_added stamp named f l ok s =
        let a = vias_spliced in
        let n : unplaced_via (via_of (context_of new last) j.0) ≡ named (board_of text root rules).layers = f j.0 j.2 ∙ ap named (sym a.layers) in
        record {
          via = via_of (context_of new last) j.0;
          is = has_via stamp l ok s;
          is_named = n;
          tracks = same_spliced unplaced _ _ _ _ a.tracks;
          vias = appended_is unplaced_via _ _ _ _ (unplaced_via (via_of (context_of new last) j.0)) a.vias
              (ap (λ z. map unplaced_via (part_of_board (context_of text root) z rules).vias) ends)
              ∙ ap (λ z. map unplaced_via (board_of text root rules).vias ++ z ∷ []) n;
          zones = same_spliced unplaced_zone _ _ _ _ a.zones;
          rest = same_rest _ _ _ _ _ _ _ _ _ _ a;
        }
