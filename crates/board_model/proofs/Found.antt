-- What is read item by item is the board of the definition, with its stamps.
use Rattle.std.proofs.Common.{◌≡◌, ◌∙◌, ap, sym, refl, subst, ℕ, Bool, true, false, cond, List, [], ◌∷◌, ◌++◌, append_assoc, append-nil, length, Option, None, Some}
use Rattle.std.specs.Prelude.{flat_map}
use Rattle.std.proofs.lemmas.List.Concat.{flat_map-append}
use Rattle.sexpr_text.specs.Items.{Item}
use Rattle.copper_shape.specs.declared.edge.Edge.{Edge}
use Rattle.board_text.specs.Things.{Placed, Thing, Board, Layers, Net, Track, CurvedTrack, Via, Footprint, RuleArea, Zone, Drawing, Pad, FootprintDrawing, FootprintZone, Other, thing_of}
use Rattle.board_text.specs.Items.{Context, stamp_in}
use Rattle.board_language.specs.Tracks.{track_of, via_of}
use Rattle.board_language.specs.Pads.{is_read_pad, pad_of}
use Rattle.board_language.specs.Zones.{is_read_zone, is_read_area, zone_of, area_of}
use Rattle.board_language.specs.Offences.{stamp_as}
use Rattle.board_language.specs.Stamps.{stamped_as, stamped_behind}
use Rattle.board_language.specs.Reading.{all_of, track_from, via_from, pad_from, zone_from, area_from, edges_from}
use Rattle.board_text.specs.declared.stamped.Stamped.{Stamped}
use Rattle.board_text.specs.declared.stamped.Stamped.TheVariants as stamped
use Rattle.board_items.specs.Stamps.{Table, with_stamp, with_stamps}
use Rattle.board_model.specs.State.{State, nothing_read_yet}
use Rattle.board_model.specs.Whole.{stamp_with, stamp_at, stamps_after}
use Rattle.board_model.specs.Steps.{after_as, put, kept, has_few, put_stamp}
use Rattle.board_model.specs.Run.{after, after_all}
use Rattle.board_model.proofs.Marked.{found_last}

-- ---- what one item adds

module _ (c : Context) (few : has_few c ≡ true) (s : State) (item : Item) where
  -- the board has few layers, so what is read is kept
  is_kept : {X : Type 0} (xs : List X) (x : X) → put xs (kept c x) ≡ xs ++ x ∷ []
  is_kept xs x = ap (λ b. put xs (cond b (Some x) None)) few

  picked : {Y : Type 0} (f : State → Y) (b : Bool) (x y : State) (z : Y) → f x ≡ z → f y ≡ z → f (cond b x y) ≡ z
  picked f true x y z p q = p
  picked f false x y z p q = q

  -- where a test holds one more is there
  read_if : {X : Type 0} (f : State → List X) (b : Bool) (new old : State) (x : X) → f new ≡ f s ++ x ∷ [] → f old ≡ f s → f (cond b new old) ≡ put (f s) (cond b (Some x) None)
  read_if f true new old x p q = p
  read_if f false new old x p q = q

  pub tracks_after : (t : Thing) → (after_as c s item t).tracks ≡ put s.tracks (track_from c item t)
  tracks_after Board = refl
  tracks_after Layers = refl
  tracks_after Net = refl
  tracks_after Track = is_kept s.tracks (track_of c item)
  tracks_after CurvedTrack = refl
  tracks_after Via = refl
  tracks_after Footprint = refl
  tracks_after RuleArea = picked (λ (r : State). r.tracks) (is_read_area c item) _ _ _ refl refl
  tracks_after Zone = picked (λ (r : State). r.tracks) (is_read_zone c item) _ _ _ refl refl
  tracks_after Drawing = refl
  tracks_after (Pad footprint) = picked (λ (r : State). r.tracks) (is_read_pad c item) _ _ _ refl refl
  tracks_after FootprintDrawing = refl
  tracks_after FootprintZone = refl
  tracks_after Other = refl

  pub vias_after : (t : Thing) → (after_as c s item t).vias ≡ put s.vias (via_from c item t)
  vias_after Board = refl
  vias_after Layers = refl
  vias_after Net = refl
  vias_after Track = refl
  vias_after CurvedTrack = refl
  vias_after Via = is_kept s.vias (via_of c item)
  vias_after Footprint = refl
  vias_after RuleArea = picked (λ (r : State). r.vias) (is_read_area c item) _ _ _ refl refl
  vias_after Zone = picked (λ (r : State). r.vias) (is_read_zone c item) _ _ _ refl refl
  vias_after Drawing = refl
  vias_after (Pad footprint) = picked (λ (r : State). r.vias) (is_read_pad c item) _ _ _ refl refl
  vias_after FootprintDrawing = refl
  vias_after FootprintZone = refl
  vias_after Other = refl

  pub pads_after : (t : Thing) → (after_as c s item t).pads ≡ put s.pads (pad_from c item t)
  pads_after Board = refl
  pads_after Layers = refl
  pads_after Net = refl
  pads_after Track = refl
  pads_after CurvedTrack = refl
  pads_after Via = refl
  pads_after Footprint = refl
  pads_after RuleArea = picked (λ (r : State). r.pads) (is_read_area c item) _ _ _ refl refl
  pads_after Zone = picked (λ (r : State). r.pads) (is_read_zone c item) _ _ _ refl refl
  pads_after Drawing = refl
  pads_after (Pad footprint) = read_if (λ (r : State). r.pads) (is_read_pad c item) _ s (pad_of c footprint item) (is_kept s.pads (pad_of c footprint item)) refl
  pads_after FootprintDrawing = refl
  pads_after FootprintZone = refl
  pads_after Other = refl

  pub zones_after : (t : Thing) → (after_as c s item t).zones ≡ put s.zones (zone_from c item t)
  zones_after Board = refl
  zones_after Layers = refl
  zones_after Net = refl
  zones_after Track = refl
  zones_after CurvedTrack = refl
  zones_after Via = refl
  zones_after Footprint = refl
  zones_after RuleArea = picked (λ (r : State). r.zones) (is_read_area c item) _ _ _ refl refl
  zones_after Zone = read_if (λ (r : State). r.zones) (is_read_zone c item) _ (record s { stamps = _ }) (zone_of c item) (is_kept s.zones (zone_of c item)) refl
  zones_after Drawing = refl
  zones_after (Pad footprint) = picked (λ (r : State). r.zones) (is_read_pad c item) _ _ _ refl refl
  zones_after FootprintDrawing = refl
  zones_after FootprintZone = refl
  zones_after Other = refl

  pub areas_after : (t : Thing) → (after_as c s item t).areas ≡ put s.areas (area_from c item t)
  areas_after Board = refl
  areas_after Layers = refl
  areas_after Net = refl
  areas_after Track = refl
  areas_after CurvedTrack = refl
  areas_after Via = refl
  areas_after Footprint = refl
  areas_after RuleArea = read_if (λ (r : State). r.areas) (is_read_area c item) _ (record s { stamps = _ }) (area_of c item) (is_kept s.areas (area_of c item)) refl
  areas_after Zone = picked (λ (r : State). r.areas) (is_read_zone c item) _ _ _ refl refl
  areas_after Drawing = refl
  areas_after (Pad footprint) = picked (λ (r : State). r.areas) (is_read_pad c item) _ _ _ refl refl
  areas_after FootprintDrawing = refl
  areas_after FootprintZone = refl
  areas_after Other = refl

  none_more : (es : List Edge) → es ≡ es ++ []
  none_more es = sym (append-nil es)

  pub edges_after : (t : Thing) → (after_as c s item t).edges ≡ s.edges ++ edges_from c item t
  edges_after Board = none_more s.edges
  edges_after Layers = none_more s.edges
  edges_after Net = none_more s.edges
  edges_after Track = none_more s.edges
  edges_after CurvedTrack = none_more s.edges
  edges_after Via = none_more s.edges
  edges_after Footprint = none_more s.edges
  edges_after RuleArea = picked (λ (r : State). r.edges) (is_read_area c item) _ _ _ (none_more s.edges) (none_more s.edges)
  edges_after Zone = picked (λ (r : State). r.edges) (is_read_zone c item) _ _ _ (none_more s.edges) (none_more s.edges)
  edges_after Drawing = refl
  edges_after (Pad footprint) = picked (λ (r : State). r.edges) (is_read_pad c item) _ _ _ (none_more s.edges) (none_more s.edges)
  edges_after FootprintDrawing = none_more s.edges
  edges_after FootprintZone = none_more s.edges
  edges_after Other = none_more s.edges

  one_stamp : (table : Table) (name : Option (List ℕ)) (thing : Stamped) → put_stamp table name thing ≡ with_stamps table (stamp_with name thing)
  unfolding with_stamps
  one_stamp table None thing = refl
  one_stamp table (Some name) thing = refl

  unstamped : s.stamps ≡ with_stamps s.stamps []
  unfolding with_stamps
  unstamped = refl

  -- a zone by its place, where it is read
  zone_stamp : (b : Bool) (new old : State) (n : ℕ) → new.stamps ≡ put_stamp s.stamps (stamp_in c.bytes item) (stamped.Zone n)
      → old.stamps ≡ put_stamp s.stamps (stamp_in c.bytes item) stamped.Other
      → (cond b new old).stamps ≡ with_stamps s.stamps (stamp_with (stamp_in c.bytes item) (cond b (stamped.Zone n) stamped.Other))
  zone_stamp true new old n p q = p ∙ one_stamp s.stamps (stamp_in c.bytes item) (stamped.Zone n)
  zone_stamp false new old n p q = q ∙ one_stamp s.stamps (stamp_in c.bytes item) stamped.Other

  pub stamps_then : (before : List Placed) → s.tracks ≡ all_of track_from c before → s.vias ≡ all_of via_from c before → s.zones ≡ all_of zone_from c before
      → (t : Thing) → (after_as c s item t).stamps ≡ with_stamps s.stamps (stamp_with (stamp_as c.bytes item t) (stamped_as c before item t))
  stamps_then before tracks vias zones Board = unstamped
  stamps_then before tracks vias zones Layers = unstamped
  stamps_then before tracks vias zones Net = unstamped
  stamps_then before tracks vias zones Track =
      one_stamp s.stamps (stamp_in c.bytes item) (stamped.Track (length s.tracks)) ∙ ap (λ xs. with_stamps s.stamps (stamp_with (stamp_in c.bytes item) (stamped.Track (length xs)))) tracks
  stamps_then before tracks vias zones CurvedTrack = unstamped
  stamps_then before tracks vias zones Via =
      one_stamp s.stamps (stamp_in c.bytes item) (stamped.Via (length s.vias)) ∙ ap (λ xs. with_stamps s.stamps (stamp_with (stamp_in c.bytes item) (stamped.Via (length xs)))) vias
  stamps_then before tracks vias zones Footprint = unstamped
  stamps_then before tracks vias zones RuleArea =
      picked (λ (r : State). r.stamps) (is_read_area c item) _ _ _ (one_stamp s.stamps (stamp_in c.bytes item) stamped.Other) (one_stamp s.stamps (stamp_in c.bytes item) stamped.Other)
  stamps_then before tracks vias zones Zone =
      zone_stamp (is_read_zone c item) _ (record s { stamps = _ }) (length s.zones) refl refl
      ∙ ap (λ xs. with_stamps s.stamps (stamp_with (stamp_in c.bytes item) (cond (is_read_zone c item) (stamped.Zone (length xs)) stamped.Other))) zones
  stamps_then before tracks vias zones Drawing = unstamped
  stamps_then before tracks vias zones (Pad footprint) = picked (λ (r : State). r.stamps) (is_read_pad c item) _ _ _ unstamped unstamped
  stamps_then before tracks vias zones FootprintDrawing = unstamped
  stamps_then before tracks vias zones FootprintZone = unstamped
  stamps_then before tracks vias zones Other = unstamped

-- ---- all of them

abbrev edges_in : Context → List Placed → List Edge
edges_in c items = flat_map (λ p. edges_from c p.item (thing_of c.bytes p)) items

-- what was read is what stands before
pub record IsFound (c : Context) (s : State) (before : List Placed) : Type 0 where
  pub tracks : s.tracks ≡ all_of track_from c before
  pub vias : s.vias ≡ all_of via_from c before
  pub pads : s.pads ≡ all_of pad_from c before
  pub zones : s.zones ≡ all_of zone_from c before
  pub areas : s.areas ≡ all_of area_from c before
  pub edges : s.edges ≡ edges_in c before
  pub stamps : s.stamps ≡ with_stamps [] (stamps_after c [] before)

pub none_found : (c : Context) → IsFound c nothing_read_yet []
unfolding stamps_after with_stamps
none_found c = record { tracks = refl; vias = refl; pads = refl; zones = refl; areas = refl; edges = refl; stamps = refl }

edges_last : {X : Type 0} (f : X → List Edge) (xs : List X) (x : X) → flat_map f (xs ++ x ∷ []) ≡ flat_map f xs ++ f x
edges_last f xs x = flat_map-append f xs (x ∷ []) ∙ ap (λ ys. flat_map f xs ++ ys) (append-nil (f x))

stamps_last : (c : Context) (front xs : List Placed) (p : Placed) → stamps_after c front (xs ++ p ∷ []) ≡ stamps_after c front xs ++ stamp_at c (front ++ xs) p
unfolding stamps_after
stamps_last c front [] p = append-nil (stamp_at c front p) ∙ ap (λ b. stamp_at c b p) (sym (append-nil front))
stamps_last c front (x ∷ xs) p =
    ap (λ ys. stamp_at c front x ++ ys) (stamps_last c (front ++ x ∷ []) xs p ∙ ap (λ b. stamps_after c (front ++ x ∷ []) xs ++ stamp_at c b p) (append_assoc front (x ∷ []) xs))
    ∙ sym (append_assoc (stamp_at c front x) (stamps_after c (front ++ x ∷ []) xs) (stamp_at c (front ++ x ∷ xs) p))

stamps_join : (table xs ys : Table) → with_stamps (with_stamps table xs) ys ≡ with_stamps table (xs ++ ys)
unfolding with_stamps
stamps_join table [] ys = refl
stamps_join table (x ∷ xs) ys = stamps_join (with_stamp table x.0 x.1) xs ys

next_found : (c : Context) (s : State) (before : List Placed) (p : Placed) → has_few c ≡ true → IsFound c s before → IsFound c (after c s p) (before ++ p ∷ [])
unfolding after stamped_behind
next_found c s before p few h =
    let t = thing_of c.bytes p in
    record {
      tracks = tracks_after c few s p.item t ∙ ap (λ xs. put xs (track_from c p.item t)) h.tracks ∙ sym (found_last (λ (q : Placed). track_from c q.item (thing_of c.bytes q)) before p);
      vias = vias_after c few s p.item t ∙ ap (λ xs. put xs (via_from c p.item t)) h.vias ∙ sym (found_last (λ (q : Placed). via_from c q.item (thing_of c.bytes q)) before p);
      pads = pads_after c few s p.item t ∙ ap (λ xs. put xs (pad_from c p.item t)) h.pads ∙ sym (found_last (λ (q : Placed). pad_from c q.item (thing_of c.bytes q)) before p);
      zones = zones_after c few s p.item t ∙ ap (λ xs. put xs (zone_from c p.item t)) h.zones ∙ sym (found_last (λ (q : Placed). zone_from c q.item (thing_of c.bytes q)) before p);
      areas = areas_after c few s p.item t ∙ ap (λ xs. put xs (area_from c p.item t)) h.areas ∙ sym (found_last (λ (q : Placed). area_from c q.item (thing_of c.bytes q)) before p);
      edges = edges_after c few s p.item t ∙ ap (λ xs. xs ++ edges_from c p.item t) h.edges ∙ sym (edges_last (λ (q : Placed). edges_from c q.item (thing_of c.bytes q)) before p);
      stamps =
          stamps_then c few s p.item before h.tracks h.vias h.zones t
          ∙ ap (λ table. with_stamps table (stamp_with (stamp_as c.bytes p.item t) (stamped_as c before p.item t))) h.stamps
          ∙ stamps_join [] (stamps_after c [] before) (stamp_at c before p)
          ∙ ap (with_stamps []) (sym (stamps_last c [] before p));
    }

pub all_found : (c : Context) (s : State) (before items : List Placed) → has_few c ≡ true → IsFound c s before → IsFound c (after_all c s items) (before ++ items)
unfolding after_all
all_found c s before [] few h = subst (IsFound c s) (sym (append-nil before)) h
all_found c s before (p ∷ ps) few h = subst (IsFound c (after_all c (after c s p) ps)) (append_assoc before (p ∷ []) ps) (all_found c (after c s p) (before ++ p ∷ []) ps few (next_found c s before p few h))
