-- The boards of two texts whose lists are the same but for some in one place.
use Rattle.std.proofs.Common.{◌≡◌, ◌∙◌, refl, ap, sym, subst, ℕ, List, [], ◌∷◌, ◌++◌, map, Option, append-nil, append_assoc}
use Rattle.std.specs.Prelude.{filter_map, flat_map}
use Rattle.std.proofs.lemmas.List.Elements.{filter_map-append}
use Rattle.sexpr_text.specs.Items.{Item}
use Rattle.board_text.specs.Lists.{lists_of}
use Rattle.board_text.specs.Items.{Context, context_of}
use Rattle.board_text.specs.Things.{Placed, Root, thing_of, with_own, items_of_board}
use Rattle.board_language.specs.declared.board.Track.{Track}
use Rattle.board_language.specs.declared.board.Via.{Via}
use Rattle.board_language.specs.declared.board.Zone.{Zone}
use Rattle.board_language.specs.declared.board.Rules.{Rules}
use Rattle.board_language.specs.Board.{Board}
use Rattle.board_language.specs.Reading.{all_of, track_from, via_from, pad_from, zone_from, area_from, edges_from, board_in, board_of}
use Rattle.fill_rules.specs.Dirty.{unlined}
use Rattle.fill_rules.specs.Edits.{unplaced, unplaced_via}
use Rattle.text_shapes.specs.Seen.{ItemSeen}
use Rattle.same_boards.specs.Alike.{unplaced_zone, AreAlike}
use Rattle.same_boards.specs.Laws.{IsSameContext}
use Rattle.same_boards.proofs.Boards.{same_items}
use Rattle.edit_changes.proofs.Patches.{ArePatched, AreMatched, context_same, items_of_lists, items_each}

pub flat_append : {X Y : Type 0} (f : X → List Y) (xs ys : List X) → flat_map f (xs ++ ys) ≡ flat_map f xs ++ flat_map f ys
flat_append f [] ys = refl
flat_append f (x ∷ xs) ys = ap (λ z. f x ++ z) (flat_append f xs ys) ∙ sym (append_assoc (f x) (flat_map f xs) (flat_map f ys))

pub map_append : {X Y : Type 0} (f : X → Y) (xs ys : List X) → map f (xs ++ ys) ≡ map f xs ++ map f ys
map_append f [] ys = refl
map_append f (x ∷ xs) ys = ap (λ z. f x ∷ z) (map_append f xs ys)

-- lists that are the same but for places, one with some things where the other has others
pub record AreSpliced {X : Type 0} (s : X → X) (xs ys before out put behind : List X) : Type 0 where
  pub old : map s xs ≡ before ++ (out ++ behind)
  pub new : map s ys ≡ before ++ (put ++ behind)

three_maps : {X : Type 0} (s : X → X) (xs ps bs cs us vs ws : List X) → xs ≡ ps ++ (bs ++ cs) → map s ps ≡ us → map s bs ≡ vs → map s cs ≡ ws → map s xs ≡ us ++ (vs ++ ws)
three_maps s xs ps bs cs us vs ws e f g h =
    ap (map s) e ∙ map_append s ps (bs ++ cs) ∙ ap (λ z. z ++ map s (bs ++ cs)) f ∙ ap (λ z. us ++ z) (map_append s bs cs ∙ ap (λ z. z ++ map s cs) g ∙ ap (λ z. vs ++ z) h)

given_three : {X : Type 0} (f : Placed → Option X) (g : Item → List Placed) (xs ms ys : List Item)
    → filter_map f (flat_map g (xs ++ (ms ++ ys))) ≡ filter_map f (flat_map g xs) ++ (filter_map f (flat_map g ms) ++ filter_map f (flat_map g ys))
given_three f g xs ms ys =
    ap (filter_map f) (flat_append g xs (ms ++ ys)) ∙ filter_map-append f (flat_map g xs) (flat_map g (ms ++ ys))
    ∙ ap (λ z. filter_map f (flat_map g xs) ++ z) (ap (filter_map f) (flat_append g ms ys) ∙ filter_map-append f (flat_map g ms) (flat_map g ys))

flat_three : {X : Type 0} (f : Placed → List X) (g : Item → List Placed) (xs ms ys : List Item)
    → flat_map f (flat_map g (xs ++ (ms ++ ys))) ≡ flat_map f (flat_map g xs) ++ (flat_map f (flat_map g ms) ++ flat_map f (flat_map g ys))
flat_three f g xs ms ys =
    ap (flat_map f) (flat_append g xs (ms ++ ys)) ∙ flat_append f (flat_map g xs) (flat_map g (ms ++ ys))
    ∙ ap (λ z. flat_map f (flat_map g xs) ++ z) (ap (flat_map f) (flat_append g ms ys) ∙ flat_append f (flat_map g ms) (flat_map g ys))

-- ---- what lists of a board give

-- the board of some of its lists
abbrev pub part_of_board : Context → List Item → Rules → Board
part_of_board c xs rules = board_in c (items_of_lists c.bytes xs) rules

-- the root gives nothing
root_gives : (c : Context) (root : Item) (items : List Placed) (rules : Rules) → board_in c (record { item = root; site = Root } ∷ items) rules ≡ board_in c items rules
unfolding thing_of
root_gives c root items rules = refl

-- they give tracks, vias and zones alone, and these
pub record GivesAlone (c : Context) (xs : List Item) (rules : Rules) (ts : List Track) (vs : List Via) (zs : List Zone) : Type 0 where
  pub tracks : (part_of_board c xs rules).tracks ≡ ts
  pub vias : (part_of_board c xs rules).vias ≡ vs
  pub zones : (part_of_board c xs rules).zones ≡ zs
  pub pads : (part_of_board c xs rules).pads ≡ []
  pub areas : (part_of_board c xs rules).areas ≡ []
  pub edges : (part_of_board c xs rules).edges ≡ []

board_parts : (text : List ℕ) (root : Item) (rules : Rules) (xs : List Item) → lists_of root ≡ xs → board_of text root rules ≡ part_of_board (context_of text root) xs rules
unfolding board_of items_of_board context_of
board_parts text root rules xs e =
    root_gives (context_of text root) root (flat_map (with_own text) (lists_of root)) rules
    ∙ ap (λ l. board_in (context_of text root) (flat_map (with_own text) l) rules) e

-- what is the same on both boards, and where tracks, vias and zones are not
pub record AreBoardsSpliced (b d before behind : Board) (ts ts2 : List Track) (vs vs2 : List Via) (zs zs2 : List Zone) : Type 0 where
  pub layers : b.layers ≡ d.layers
  pub nets : b.nets ≡ d.nets
  pub tracks : AreSpliced unplaced b.tracks d.tracks (map unplaced before.tracks) (map unplaced ts) (map unplaced ts2) (map unplaced behind.tracks)
  pub vias : AreSpliced unplaced_via b.vias d.vias (map unplaced_via before.vias) (map unplaced_via vs) (map unplaced_via vs2) (map unplaced_via behind.vias)
  pub zones : AreSpliced unplaced_zone b.zones d.zones (map unplaced_zone before.zones) (map unplaced_zone zs) (map unplaced_zone zs2) (map unplaced_zone behind.zones)
  pub pads : map unlined b.pads ≡ map unlined d.pads
  pub areas : b.areas ≡ d.areas
  pub edges : b.edges ≡ d.edges
  pub rules : b.rules ≡ d.rules

-- ---- two contexts
module _ (c d : Context) (rules : Rules) (k : IsSameContext c d) (xs ms ys us ns vs : List Item)
    (f : AreAlike (part_of_board c xs rules) (part_of_board d us rules)) (h : AreAlike (part_of_board c ys rules) (part_of_board d vs rules))
    (ts ts2 : List Track) (ws ws2 : List Via) (zs zs2 : List Zone) (o : GivesAlone c ms rules ts ws zs) (p : GivesAlone d ns rules ts2 ws2 zs2)
  where
    tracks_spliced : AreSpliced unplaced (part_of_board c (xs ++ (ms ++ ys)) rules).tracks (part_of_board d (us ++ (ns ++ vs)) rules).tracks
        (map unplaced (part_of_board c xs rules).tracks) (map unplaced ts) (map unplaced ts2) (map unplaced (part_of_board c ys rules).tracks)
    tracks_spliced = record {
      old = three_maps unplaced (all_of track_from c (items_of_lists c.bytes (xs ++ (ms ++ ys)))) (all_of track_from c (items_of_lists c.bytes xs)) (all_of track_from c (items_of_lists c.bytes ms)) (all_of track_from c (items_of_lists c.bytes ys))
          (map unplaced (all_of track_from c (items_of_lists c.bytes xs))) (map unplaced ts) (map unplaced (all_of track_from c (items_of_lists c.bytes ys)))
          (given_three (λ q. track_from c q.item (thing_of c.bytes q)) (with_own c.bytes) xs ms ys) refl (ap (map unplaced) o.tracks) refl;
      new = three_maps unplaced (all_of track_from d (items_of_lists d.bytes (us ++ (ns ++ vs)))) (all_of track_from d (items_of_lists d.bytes us)) (all_of track_from d (items_of_lists d.bytes ns)) (all_of track_from d (items_of_lists d.bytes vs))
          (map unplaced (all_of track_from c (items_of_lists c.bytes xs))) (map unplaced ts2) (map unplaced (all_of track_from c (items_of_lists c.bytes ys)))
          (given_three (λ q. track_from d q.item (thing_of d.bytes q)) (with_own d.bytes) us ns vs) (sym f.tracks) (ap (map unplaced) p.tracks) (sym h.tracks);
    }

    vias_spliced : AreSpliced unplaced_via (part_of_board c (xs ++ (ms ++ ys)) rules).vias (part_of_board d (us ++ (ns ++ vs)) rules).vias
        (map unplaced_via (part_of_board c xs rules).vias) (map unplaced_via ws) (map unplaced_via ws2) (map unplaced_via (part_of_board c ys rules).vias)
    vias_spliced = record {
      old = three_maps unplaced_via (all_of via_from c (items_of_lists c.bytes (xs ++ (ms ++ ys)))) (all_of via_from c (items_of_lists c.bytes xs)) (all_of via_from c (items_of_lists c.bytes ms)) (all_of via_from c (items_of_lists c.bytes ys))
          (map unplaced_via (all_of via_from c (items_of_lists c.bytes xs))) (map unplaced_via ws) (map unplaced_via (all_of via_from c (items_of_lists c.bytes ys)))
          (given_three (λ q. via_from c q.item (thing_of c.bytes q)) (with_own c.bytes) xs ms ys) refl (ap (map unplaced_via) o.vias) refl;
      new = three_maps unplaced_via (all_of via_from d (items_of_lists d.bytes (us ++ (ns ++ vs)))) (all_of via_from d (items_of_lists d.bytes us)) (all_of via_from d (items_of_lists d.bytes ns)) (all_of via_from d (items_of_lists d.bytes vs))
          (map unplaced_via (all_of via_from c (items_of_lists c.bytes xs))) (map unplaced_via ws2) (map unplaced_via (all_of via_from c (items_of_lists c.bytes ys)))
          (given_three (λ q. via_from d q.item (thing_of d.bytes q)) (with_own d.bytes) us ns vs) (sym f.vias) (ap (map unplaced_via) p.vias) (sym h.vias);
    }

    zones_spliced : AreSpliced unplaced_zone (part_of_board c (xs ++ (ms ++ ys)) rules).zones (part_of_board d (us ++ (ns ++ vs)) rules).zones
        (map unplaced_zone (part_of_board c xs rules).zones) (map unplaced_zone zs) (map unplaced_zone zs2) (map unplaced_zone (part_of_board c ys rules).zones)
    zones_spliced = record {
      old = three_maps unplaced_zone (all_of zone_from c (items_of_lists c.bytes (xs ++ (ms ++ ys)))) (all_of zone_from c (items_of_lists c.bytes xs)) (all_of zone_from c (items_of_lists c.bytes ms)) (all_of zone_from c (items_of_lists c.bytes ys))
          (map unplaced_zone (all_of zone_from c (items_of_lists c.bytes xs))) (map unplaced_zone zs) (map unplaced_zone (all_of zone_from c (items_of_lists c.bytes ys)))
          (given_three (λ q. zone_from c q.item (thing_of c.bytes q)) (with_own c.bytes) xs ms ys) refl (ap (map unplaced_zone) o.zones) refl;
      new = three_maps unplaced_zone (all_of zone_from d (items_of_lists d.bytes (us ++ (ns ++ vs)))) (all_of zone_from d (items_of_lists d.bytes us)) (all_of zone_from d (items_of_lists d.bytes ns)) (all_of zone_from d (items_of_lists d.bytes vs))
          (map unplaced_zone (all_of zone_from c (items_of_lists c.bytes xs))) (map unplaced_zone zs2) (map unplaced_zone (all_of zone_from c (items_of_lists c.bytes ys)))
          (given_three (λ q. zone_from d q.item (thing_of d.bytes q)) (with_own d.bytes) us ns vs) (sym f.zones) (ap (map unplaced_zone) p.zones) (sym h.zones);
    }

    pads_same : map unlined (part_of_board c (xs ++ (ms ++ ys)) rules).pads ≡ map unlined (part_of_board d (us ++ (ns ++ vs)) rules).pads
    pads_same =
        three_maps unlined (all_of pad_from c (items_of_lists c.bytes (xs ++ (ms ++ ys)))) (all_of pad_from c (items_of_lists c.bytes xs)) (all_of pad_from c (items_of_lists c.bytes ms)) (all_of pad_from c (items_of_lists c.bytes ys))
        (map unlined (all_of pad_from c (items_of_lists c.bytes xs))) [] (map unlined (all_of pad_from c (items_of_lists c.bytes ys)))
        (given_three (λ q. pad_from c q.item (thing_of c.bytes q)) (with_own c.bytes) xs ms ys) refl (ap (map unlined) o.pads) refl
        ∙ sym (three_maps unlined (all_of pad_from d (items_of_lists d.bytes (us ++ (ns ++ vs)))) (all_of pad_from d (items_of_lists d.bytes us)) (all_of pad_from d (items_of_lists d.bytes ns)) (all_of pad_from d (items_of_lists d.bytes vs))
        (map unlined (all_of pad_from c (items_of_lists c.bytes xs))) [] (map unlined (all_of pad_from c (items_of_lists c.bytes ys)))
        (given_three (λ q. pad_from d q.item (thing_of d.bytes q)) (with_own d.bytes) us ns vs) (sym f.pads) (ap (map unlined) p.pads) (sym h.pads))

    same_three : {X : Type 0} (ps bs cs es fs gs : List X) → ps ≡ es → bs ≡ [] → fs ≡ [] → cs ≡ gs → ps ++ (bs ++ cs) ≡ es ++ (fs ++ gs)
    same_three ps bs cs es fs gs e q r g =
        ap (λ z. z ++ (bs ++ cs)) e ∙ ap (λ z. es ++ (z ++ cs)) (q ∙ sym r) ∙ ap (λ z. es ++ (fs ++ z)) g

    areas_same : (part_of_board c (xs ++ (ms ++ ys)) rules).areas ≡ (part_of_board d (us ++ (ns ++ vs)) rules).areas
    areas_same =
        given_three (λ q. area_from c q.item (thing_of c.bytes q)) (with_own c.bytes) xs ms ys
        ∙ same_three (all_of area_from c (items_of_lists c.bytes xs)) (all_of area_from c (items_of_lists c.bytes ms)) (all_of area_from c (items_of_lists c.bytes ys))
        (all_of area_from d (items_of_lists d.bytes us)) (all_of area_from d (items_of_lists d.bytes ns)) (all_of area_from d (items_of_lists d.bytes vs)) f.areas o.areas p.areas h.areas
        ∙ sym (given_three (λ q. area_from d q.item (thing_of d.bytes q)) (with_own d.bytes) us ns vs)

    edges_same : (part_of_board c (xs ++ (ms ++ ys)) rules).edges ≡ (part_of_board d (us ++ (ns ++ vs)) rules).edges
    edges_same =
        flat_three (λ q. edges_from c q.item (thing_of c.bytes q)) (with_own c.bytes) xs ms ys
        ∙ same_three (part_of_board c xs rules).edges (part_of_board c ms rules).edges (part_of_board c ys rules).edges
        (part_of_board d us rules).edges (part_of_board d ns rules).edges (part_of_board d vs rules).edges f.edges o.edges p.edges h.edges
        ∙ sym (flat_three (λ q. edges_from d q.item (thing_of d.bytes q)) (with_own d.bytes) us ns vs)

    parts_spliced : AreBoardsSpliced (part_of_board c (xs ++ (ms ++ ys)) rules) (part_of_board d (us ++ (ns ++ vs)) rules) (part_of_board c xs rules) (part_of_board c ys rules) ts ts2 ws ws2 zs zs2
    parts_spliced = record {
      layers = k.copper;
      nets = k.nets;
      tracks = tracks_spliced;
      vias = vias_spliced;
      zones = zones_spliced;
      pads = pads_same;
      areas = areas_same;
      edges = edges_same;
      rules = refl;
    }

-- ---- the boards of the two texts
pub spliced_boards : (a b : List ℕ) (root last : Item) (rules : Rules) (front out put behind : List ItemSeen) (p : ArePatched a b root last front out put behind) (m : AreMatched a b root last front out put behind)
    (ts ts2 : List Track) (ws ws2 : List Via) (zs zs2 : List Zone)
    → GivesAlone (context_of a root) m.ms rules ts ws zs → GivesAlone (context_of b last) m.ns rules ts2 ws2 zs2
    → AreBoardsSpliced (board_of a root rules) (board_of b last rules) (part_of_board (context_of a root) m.xs rules) (part_of_board (context_of a root) m.ys rules) ts ts2 ws ws2 zs zs2
unfolding context_of
spliced_boards a b root last rules front out put behind p m ts ts2 ws ws2 zs zs2 o q =
    let c : Context = context_of a root in
    let d : Context = context_of b last in
    let k : IsSameContext c d = context_same a b root last front out put behind p in
    subst (λ (z : Board). AreBoardsSpliced z (board_of b last rules) (part_of_board c m.xs rules) (part_of_board c m.ys rules) ts ts2 ws ws2 zs zs2)
    (sym (board_parts a root rules (m.xs ++ (m.ms ++ m.ys)) m.old))
    (subst (λ (z : Board). AreBoardsSpliced (part_of_board c (m.xs ++ (m.ms ++ m.ys)) rules) z (part_of_board c m.xs rules) (part_of_board c m.ys rules) ts ts2 ws ws2 zs zs2)
    (sym (board_parts b last rules (m.us ++ (m.ns ++ m.vs)) m.new))
    (parts_spliced c d rules k m.xs m.ms m.ys m.us m.ns m.vs
    (same_items c d (items_of_lists a m.xs) (items_of_lists b m.us) rules k (items_each a b m.xs m.us m.front))
    (same_items c d (items_of_lists a m.ys) (items_of_lists b m.vs) rules k (items_each a b m.ys m.vs m.behind))
    ts ts2 ws ws2 zs zs2 o q))

-- ---- what is put behind all others, and what stays

pub appended_is : {X : Type 0} (s : X → X) (xs ys before behind : List X) (u : X) → AreSpliced s xs ys before [] (u ∷ []) behind → behind ≡ [] → map s ys ≡ map s xs ++ u ∷ []
appended_is s xs ys before behind u a e =
    let o : map s xs ≡ before = a.old ∙ ap (λ z. before ++ z) e ∙ append-nil before in
    a.new ∙ ap (λ z. before ++ u ∷ z) e ∙ ap (λ z. z ++ u ∷ []) (sym o)

pub same_spliced : {X : Type 0} (s : X → X) (xs ys before behind : List X) → AreSpliced s xs ys before [] [] behind → map s xs ≡ map s ys
same_spliced s xs ys before behind a = a.old ∙ sym a.new
