-- What lists of a board are, and what they give.
use Rattle.std.proofs.Common.{◌≡◌, ◌∙◌, refl, ap, ℕ, Bool, true, false, cond, List, [], ◌∷◌, ◌++◌, map, codes, Option, None, Some}
use Rattle.std.specs.Prelude.{flat_map, if◌then◌else◌}
use Rattle.std.specs.List.{cons_option}
use Rattle.sexpr_text.specs.Items.{Item, is_headed}
use Rattle.board_text.specs.Lists.{lists_of}
use Rattle.board_text.specs.Fields.{has_list}
use Rattle.board_text.specs.Items.{Context}
use Rattle.board_text.specs.Things.{OnBoard, InFootprint, Thing, Layers, Net, Track, CurvedTrack, Via, Footprint, RuleArea, Zone, Other, zone_thing, drawing_thing, on_board, thing_of}
use Rattle.board_language.specs.declared.board.Rules.{Rules}
use Rattle.board_language.specs.Tracks.{track_of, via_of}
use Rattle.board_language.specs.Zones.{is_read_zone, zone_of}
use Rattle.board_language.specs.Reading.{all_of, track_from, via_from, pad_from, zone_from, area_from, edges_from}
use Rattle.same_boards.proofs.Roots.{other_headed}
use Rattle.edit_changes.proofs.Patches.{items_of_lists}
use Rattle.edit_changes.proofs.Boards.{part_of_board, GivesAlone}

-- ---- by heads

third : {X : Type 0} (l n t : Bool) (x y z w : X) → l ≡ false → n ≡ false → t ≡ true → (if l then x else (if n then y else (if t then z else w))) ≡ z
third l n t x y z w e f g = rw (e, f, g) refl

pub track_thing : (text : List ℕ) (i : Item) → is_headed text (codes "segment") i ≡ true → on_board text i ≡ Track
track_thing text i h =
    third (is_headed text (codes "layers") i) (is_headed text (codes "net") i) (is_headed text (codes "segment") i) Layers Net Track _
    (other_headed text text (codes "segment") (codes "layers") refl i h) (other_headed text text (codes "segment") (codes "net") refl i h) h

pub via_thing : (text : List ℕ) (i : Item) → is_headed text (codes "via") i ≡ true → on_board text i ≡ Via
via_thing text i h =
    third (is_headed text (codes "layers") i) (is_headed text (codes "net") i) true Layers Net _ Other
    (other_headed text text (codes "via") (codes "layers") refl i h) (other_headed text text (codes "via") (codes "net") refl i h) refl
    ∙ third (is_headed text (codes "segment") i) (is_headed text (codes "arc") i) (is_headed text (codes "via") i) Track CurvedTrack Via _
    (other_headed text text (codes "via") (codes "segment") refl i h) (other_headed text text (codes "via") (codes "arc") refl i h) h

-- ---- what a list gives that is no footprint

pub items_alone : (text : List ℕ) (i : Item) → is_headed text (codes "footprint") i ≡ false → items_of_lists text (i ∷ []) ≡ record { item = i; site = OnBoard } ∷ []
items_alone text i h = ap (λ b. record { item = i; site = OnBoard } ∷ (cond b (map (λ x. record { item = x; site = InFootprint i }) (lists_of i)) [] ++ [])) h

pub thing_there : (text : List ℕ) (i : Item) (t : Thing) → on_board text i ≡ t → thing_of text (record { item = i; site = OnBoard }) ≡ t
unfolding thing_of
thing_there text i t e = e

module _ (c : Context) (i : Item) (t : Thing) (h : is_headed c.bytes (codes "footprint") i ≡ false) (e : on_board c.bytes i ≡ t) (rules : Rules) where
  alone : {X : Type 0} (from : Context → Item → Thing → Option X) → all_of from c (items_of_lists c.bytes (i ∷ [])) ≡ cons_option (from c i t) []
  alone from = ap (all_of from c) (items_alone c.bytes i h) ∙ ap (λ u. cons_option (from c i u) []) (thing_there c.bytes i t e)

  alone_edges : (part_of_board c (i ∷ []) rules).edges ≡ edges_from c i t ++ []
  alone_edges =
      ap (flat_map (λ p. edges_from c p.item (thing_of c.bytes p))) (items_alone c.bytes i h) ∙ ap (λ u. edges_from c i u ++ []) (thing_there c.bytes i t e)

pub gives_none : (c : Context) (rules : Rules) → GivesAlone c [] rules [] [] []
gives_none c rules = record { tracks = refl; vias = refl; zones = refl; pads = refl; areas = refl; edges = refl }

pub gives_track : (c : Context) (i : Item) (rules : Rules) → is_headed c.bytes (codes "segment") i ≡ true → GivesAlone c (i ∷ []) rules (track_of c i ∷ []) [] []
gives_track c i rules h =
    let f = other_headed c.bytes c.bytes (codes "segment") (codes "footprint") refl i h in
    let e = track_thing c.bytes i h in
    record {
      tracks = alone c i Track f e rules track_from;
      vias = alone c i Track f e rules via_from;
      zones = alone c i Track f e rules zone_from;
      pads = alone c i Track f e rules pad_from;
      areas = alone c i Track f e rules area_from;
      edges = alone_edges c i Track f e rules;
    }

pub gives_via : (c : Context) (i : Item) (rules : Rules) → is_headed c.bytes (codes "via") i ≡ true → GivesAlone c (i ∷ []) rules [] (via_of c i ∷ []) []
gives_via c i rules h =
    let f = other_headed c.bytes c.bytes (codes "via") (codes "footprint") refl i h in
    let e = via_thing c.bytes i h in
    record {
      tracks = alone c i Via f e rules track_from;
      vias = alone c i Via f e rules via_from;
      zones = alone c i Via f e rules zone_from;
      pads = alone c i Via f e rules pad_from;
      areas = alone c i Via f e rules area_from;
      edges = alone_edges c i Via f e rules;
    }

read_zone : (c : Context) (i : Item) (b : Bool) → b ≡ true → cons_option (cond b (Some (zone_of c i)) None) [] ≡ zone_of c i ∷ []
read_zone c i b e = ap (λ x. cons_option (cond x (Some (zone_of c i)) None) []) e

pub gives_zone : (c : Context) (i : Item) (rules : Rules) → is_headed c.bytes (codes "zone") i ≡ true → on_board c.bytes i ≡ Zone → is_read_zone c i ≡ true
    → GivesAlone c (i ∷ []) rules [] [] (zone_of c i ∷ [])
gives_zone c i rules h e r =
    let f = other_headed c.bytes c.bytes (codes "zone") (codes "footprint") refl i h in
    record {
      tracks = alone c i Zone f e rules track_from;
      vias = alone c i Zone f e rules via_from;
      zones = alone c i Zone f e rules zone_from ∙ read_zone c i (is_read_zone c i) r;
      pads = alone c i Zone f e rules pad_from;
      areas = alone c i Zone f e rules area_from;
      edges = alone_edges c i Zone f e rules;
    }

seventh : {X : Type 0} (l n t r v f z : Bool) (a b c d e g w x : X) → l ≡ false → n ≡ false → t ≡ false → r ≡ false → v ≡ false → f ≡ false → z ≡ true
    → (if l then a else (if n then b else (if t then c else (if r then d else (if v then e else (if f then g else (if z then w else x))))))) ≡ w
seventh l n t r v f z a b c d e g w x e1 e2 e3 e4 e5 e6 e7 = rw (e1, e2, e3, e4, e5, e6, e7) refl

pub zone_thing_is : (text : List ℕ) (i : Item) → is_headed text (codes "zone") i ≡ true → has_list text (codes "keepout") i ≡ false → on_board text i ≡ Zone
zone_thing_is text i h n =
    seventh (is_headed text (codes "layers") i) (is_headed text (codes "net") i) (is_headed text (codes "segment") i) (is_headed text (codes "arc") i) (is_headed text (codes "via") i)
    (is_headed text (codes "footprint") i) (is_headed text (codes "zone") i) Layers Net Track CurvedTrack Via Footprint (zone_thing text i) (drawing_thing text i)
    (other_headed text text (codes "zone") (codes "layers") refl i h) (other_headed text text (codes "zone") (codes "net") refl i h) (other_headed text text (codes "zone") (codes "segment") refl i h)
    (other_headed text text (codes "zone") (codes "arc") refl i h) (other_headed text text (codes "zone") (codes "via") refl i h) (other_headed text text (codes "zone") (codes "footprint") refl i h) h
    ∙ ap (λ b. cond b RuleArea Zone) n
