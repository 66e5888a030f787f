-- What each item gives of a board is told by its contents, whatever its place.
use Rattle.std.proofs.Common.{◌≡◌, ◌∙◌, refl, ap, ℕ, Bool, true, false, cond, ◌||◌, List, [], map, length, codes, Option, None, Some, option_map}
use Rattle.std.specs.Prelude.{unwrap_or}
use Rattle.std.specs.Option.{option_or}
use Rattle.std.proofs.lemmas.Bool.{false≢true, true≢false}
use Rattle.grid_num.specs.declared.Point.{Point}
use Rattle.sexpr_text.specs.Items.{Item}
use Rattle.board_text.specs.Fields.{list_of}
use Rattle.board_text.specs.Numbers.{length_of, whole_number}
use Rattle.board_text.specs.Layers.{layer_number, layers_between, layer_set, has_copper}
use Rattle.board_text.specs.Items.{Context, size_of, declared_net}
use Rattle.board_text.specs.Things.{Thing, Board, Layers, Net, Track, CurvedTrack, Via, Footprint, RuleArea, Zone, Drawing, Pad, FootprintDrawing, FootprintZone, Other}
use Rattle.copper_shape.specs.Shapes.{Copper}
use Rattle.board_language.specs.declared.PadKind.{PadKind}
use Rattle.board_language.specs.declared.Join.{Join}
use Rattle.board_language.specs.declared.IslandMode.{IslandMode}
use Rattle.board_language.specs.declared.board.Track as tracks
use Rattle.board_language.specs.declared.board.Via as vias
use Rattle.board_language.specs.declared.board.Pad as pads
use Rattle.board_language.specs.declared.board.Zone as zones
use Rattle.board_language.specs.Tracks.{track_of, via_of, via_layer}
use Rattle.board_language.specs.Pads.{is_read_pad, pad_of, own_length, bridge_list, own_join, some_length}
use Rattle.board_language.specs.Zones.{layer_list, is_read_zone, is_read_area, corner_in_units, zone_of, area_of}
use Rattle.board_language.specs.Counts.{things_as, outlines_as}
use Rattle.board_language.specs.Offences.{net_as, stamp_as, is_layers, has_outline}
use Rattle.board_language.specs.Reading.{track_from, via_from, pad_from, zone_from, area_from, edges_from}
use Rattle.fill_rules.specs.Dirty.{unlined}
use Rattle.fill_rules.specs.Edits.{unplaced, unplaced_via}
use Rattle.same_boards.specs.Contents.{HaveSameContents}
use Rattle.same_boards.specs.Alike.{unplaced_zone}
use Rattle.same_boards.proofs.Fields.{both_and, both_cond, two, Same, Weak, weak_of, list_two, number_two, point_in_two, net_two, own_stamp_two, said_two, layers_two, copper_two}
use Rattle.same_boards.proofs.Things as things
use Rattle.same_boards.proofs.Pads as own

-- ---- records field by field

abbrev track_by : Point → Point → ℕ → ℕ → ℕ → tracks.Track
track_by f t w l n = record { from = f; to = t; width = w; layer = l; net = n; span = record { from = 0; to = 0 }; line = 0 }

same_track : {f g t u : Point} {w x l m n o : ℕ} → f ≡ g → t ≡ u → w ≡ x → l ≡ m → n ≡ o → track_by f t w l n ≡ track_by g u x m o
same_track a b c d e = rw (a, b, c, d, e) refl

abbrev via_by : Point → ℕ → ℕ → ℕ → vias.Via
via_by p s l n = record { at = p; size = s; layers = l; net = n; span = record { from = 0; to = 0 }; line = 0 }

same_via : {p q : Point} {s t l m n o : ℕ} → p ≡ q → s ≡ t → l ≡ m → n ≡ o → via_by p s l n ≡ via_by q t m o
same_via a b c d = rw (a, b, c, d) refl

abbrev pad_by : Copper → Point → ℕ → ℕ → PadKind → ℕ → Option Join → Option ℕ → Option ℕ → pads.Pad
pad_by s p l n k c j g b = record { shape = s; at = p; layers = l; net = n; kind = k; clearance = c; join = j; gap = g; bridge = b; line = 0 }

same_pad : {s s' : Copper} {p p' : Point} {l l' n n' : ℕ} {k k' : PadKind} {c c' : ℕ} {j j' : Option Join} {g g' b b' : Option ℕ}
    → s ≡ s' → p ≡ p' → l ≡ l' → n ≡ n' → k ≡ k' → c ≡ c' → j ≡ j' → g ≡ g' → b ≡ b' → pad_by s p l n k c j g b ≡ pad_by s' p' l' n' k' c' j' g' b'
same_pad e1 e2 e3 e4 e5 e6 e7 e8 e9 = rw (e1, e2, e3, e4, e5, e6, e7, e8, e9) refl

abbrev zone_by : List Point → ℕ → ℕ → ℕ → Join → ℕ → ℕ → ℕ → ℕ → IslandMode → zones.Zone
zone_by o l n p j c t g b i =
    record {
      outline = o;
      layers = l;
      net = n;
      priority = p;
      join = j;
      clearance = c;
      thickness = t;
      gap = g;
      bridge = b;
      islands = i;
      spans = record { priority = None; connect = None; clearance = None; tail = 0; fills = [] };
      span = record { from = 0; to = 0 };
      line = 0;
    }

same_zone : {o o' : List Point} {l l' n n' p p' : ℕ} {j j' : Join} {c c' t t' g g' b b' : ℕ} {i i' : IslandMode}
    → o ≡ o' → l ≡ l' → n ≡ n' → p ≡ p' → j ≡ j' → c ≡ c' → t ≡ t' → g ≡ g' → b ≡ b' → i ≡ i' → zone_by o l n p j c t g b i ≡ zone_by o' l' n' p' j' c' t' g' b' i'
same_zone e1 e2 e3 e4 e5 e6 e7 e8 e9 e10 = rw (e1, e2, e3, e4, e5, e6, e7, e8, e9, e10) refl

given_cond : {X Y : Type 0} (s : X → Y) (x y : X) (p q : Bool) → p ≡ q → s x ≡ s y → option_map s (cond p (Some x) None) ≡ option_map s (cond q (Some y) None)
given_cond s x y true true e f = ap Some f
given_cond s x y true false e f = absurd (true≢false e)
given_cond s x y false true e f = absurd (false≢true e)
given_cond s x y false false e f = refl

-- ---- two boards with the same layers and nets
module _ (c d : Context) (k : c.copper ≡ d.copper) where
  track_told : (i j : Item) → Same c.bytes d.bytes i j → unplaced (track_of c i) ≡ unplaced (track_of d j)
  unfolding track_of
  track_told i j e =
      let w = weak_of c.bytes d.bytes i j e in
      same_track (point_in_two c.bytes d.bytes (codes "start") refl i j w) (point_in_two c.bytes d.bytes (codes "end") refl i j w)
      (ap size_of (number_two c.bytes d.bytes length_of 0 (Rattle.std.specs.Prelude.pos 0) (codes "width") refl i j w))
      (two layer_number k (things.track_layer_two c.bytes d.bytes i j w)) (net_two c.bytes d.bytes i j w)

  via_told : (i j : Item) → Same c.bytes d.bytes i j → unplaced_via (via_of c i) ≡ unplaced_via (via_of d j)
  unfolding via_of
  via_told i j e =
      let w = weak_of c.bytes d.bytes i j e in
      same_via (point_in_two c.bytes d.bytes (codes "at") refl i j w)
      (ap size_of (number_two c.bytes d.bytes length_of 0 (Rattle.std.specs.Prelude.pos 0) (codes "size") refl i j w))
      (two (λ copper top. layers_between copper top (via_layer c.bytes 1 i)) k (things.via_layer_two c.bytes d.bytes 0 i j w)
      ∙ ap (layers_between d.copper (via_layer d.bytes 0 j)) (things.via_layer_two c.bytes d.bytes 1 i j w))
      (net_two c.bytes d.bytes i j w)

  pad_told : (f g i j : Item) → Same c.bytes d.bytes f g → Same c.bytes d.bytes i j → unlined (pad_of c f i) ≡ unlined (pad_of d g j)
  unfolding pad_of
  pad_told f g i j s e =
      let v = weak_of c.bytes d.bytes f g s in
      let w = weak_of c.bytes d.bytes i j e in
      same_pad (own.shape_two c.bytes d.bytes f g i j s e) (own.place_two c.bytes d.bytes f g i j s e)
      (layers_two c.bytes d.bytes c.copper (list_of c.bytes (codes "layers") i) (list_of d.bytes (codes "layers") j) (list_two c.bytes d.bytes (codes "layers") refl i j w)
      ∙ ap (λ z. layer_set d.bytes z (list_of d.bytes (codes "layers") j)) k)
      (net_two c.bytes d.bytes i j w) (own.kind_two c.bytes d.bytes i j e)
      (ap (λ o. unwrap_or o 0) (two option_or (own.own_two c.bytes d.bytes (codes "clearance") refl i j w) (own.own_two c.bytes d.bytes (codes "clearance") refl f g v)))
      (two option_or (own.own_join_two c.bytes d.bytes i j w) (own.own_join_two c.bytes d.bytes f g v))
      (two option_or (own.own_two c.bytes d.bytes (codes "thermal_gap") refl i j w) (own.own_two c.bytes d.bytes (codes "thermal_gap") refl f g v))
      (two option_or (ap some_length (Rattle.same_boards.proofs.Fields.value_two c.bytes d.bytes length_of 0 (Rattle.std.specs.Prelude.pos 0) (bridge_list c.bytes i) (bridge_list d.bytes j) (own.bridge_list_two c.bytes d.bytes i j w)))
      (own.own_two c.bytes d.bytes (codes "thermal_width") refl f g v))

  zone_layers_told : (i j : Item) → Weak c.bytes d.bytes i j → layer_set c.bytes c.copper (layer_list c.bytes i) ≡ layer_set d.bytes d.copper (layer_list d.bytes j)
  zone_layers_told i j w =
      layers_two c.bytes d.bytes c.copper (layer_list c.bytes i) (layer_list d.bytes j) (things.layer_list_two c.bytes d.bytes i j w) ∙ ap (λ z. layer_set d.bytes z (layer_list d.bytes j)) k

  zone_told : (i j : Item) → Weak c.bytes d.bytes i j → unplaced_zone (zone_of c i) ≡ unplaced_zone (zone_of d j)
  unfolding zone_of
  zone_told i j w =
      same_zone (ap (map corner_in_units) (things.corners_read_two c.bytes d.bytes i j w)) (zone_layers_told i j w) (net_two c.bytes d.bytes i j w)
      (number_two c.bytes d.bytes whole_number 0 0 (codes "priority") refl i j w) (things.join_two c.bytes d.bytes i j w) (ap size_of (things.clearance_two c.bytes d.bytes i j w))
      (ap size_of (things.thickness_two c.bytes d.bytes i j w)) (ap size_of (things.gap_two c.bytes d.bytes i j w)) (ap size_of (things.bridge_two c.bytes d.bytes i j w))
      (things.islands_two c.bytes d.bytes i j w)

  area_told : (i j : Item) → Weak c.bytes d.bytes i j → area_of c i ≡ area_of d j
  unfolding area_of
  area_told i j w =
      two (λ (o : List Point) (l : ℕ). record { outline = o; layers = l }) (ap (map corner_in_units) (things.corners_read_two c.bytes d.bytes i j w)) (zone_layers_told i j w)

  -- ---- which are read

  pub read_pad_told : (i j : Item) → Same c.bytes d.bytes i j → is_read_pad c i ≡ is_read_pad d j
  read_pad_told i j e = own.read_two c.bytes d.bytes c.copper i j e ∙ ap (λ z. Rattle.board_language.specs.Pads.is_hole d.bytes j || has_copper d.bytes z (list_of d.bytes (codes "layers") j)) k

  pub read_zone_told : (i j : Item) → Weak c.bytes d.bytes i j → is_read_zone c i ≡ is_read_zone d j
  read_zone_told i j w = things.read_zone_two c.bytes d.bytes c.copper i j w ∙ ap (λ z. has_copper d.bytes z (layer_list d.bytes j)) k

  pub read_area_told : (i j : Item) → Weak c.bytes d.bytes i j → is_read_area c i ≡ is_read_area d j
  read_area_told i j w = both_and (things.keeps_out_two c.bytes d.bytes i j w) (read_zone_told i j w)

  pub declared_told : (i j : Item) → Same c.bytes d.bytes i j → declared_net c.bytes i ≡ declared_net d.bytes j
  declared_told i j e = ap (option_map whole_number) (said_two c.bytes d.bytes 0 i j e)

  -- ---- what is given

  -- the items give the same, as these things
  pub record AreTold (i j : Item) (t u : Thing) : Type 0 where
    pub track : option_map unplaced (track_from c i t) ≡ option_map unplaced (track_from d j u)
    pub via : option_map unplaced_via (via_from c i t) ≡ option_map unplaced_via (via_from d j u)
    pub pad : option_map unlined (pad_from c i t) ≡ option_map unlined (pad_from d j u)
    pub zone : option_map unplaced_zone (zone_from c i t) ≡ option_map unplaced_zone (zone_from d j u)
    pub area : area_from c i t ≡ area_from d j u
    pub edges : edges_from c i t ≡ edges_from d j u
    pub things : things_as c i t ≡ things_as d j u
    pub outlines : outlines_as c i t ≡ outlines_as d j u
    pub net : net_as c.bytes i t ≡ net_as d.bytes j u
    pub stamp : stamp_as c.bytes i t ≡ stamp_as d.bytes j u
    pub layers : is_layers t ≡ is_layers u
    pub outline : has_outline c i t ≡ has_outline d j u

  -- how items have the same contents that are such things
  abbrev pub AreSameAs : Thing → Item → Item → Type 0
  AreSameAs Board i j = HaveSameContents c.bytes i d.bytes j
  AreSameAs Zone i j = Weak c.bytes d.bytes i j
  AreSameAs RuleArea i j = Weak c.bytes d.bytes i j
  AreSameAs t i j = Same c.bytes d.bytes i j

  pub pad_given : (f g i j : Item) → Same c.bytes d.bytes f g → Same c.bytes d.bytes i j → AreTold i j (Pad f) (Pad g)
  pad_given f g i j s e = record {
    track = refl;
    via = refl;
    pad = given_cond unlined (pad_of c f i) (pad_of d g j) (is_read_pad c i) (is_read_pad d j) (read_pad_told i j e) (pad_told f g i j s e);
    zone = refl;
    area = refl;
    edges = refl;
    things = both_cond (read_pad_told i j e) refl refl;
    outlines = refl;
    net = refl;
    stamp = refl;
    layers = refl;
    outline = refl;
  }

  pub given : (t : Thing) (i j : Item) → ((f : Item) → t ≡ Pad f → ⊥) → AreSameAs t i j → AreTold i j t t
  given Board i j n e = record { track = refl; via = refl; pad = refl; zone = refl; area = refl; edges = refl; things = refl; outlines = refl; net = refl; stamp = refl; layers = refl; outline = refl }
  given Layers i j n e = record { track = refl; via = refl; pad = refl; zone = refl; area = refl; edges = refl; things = refl; outlines = refl; net = refl; stamp = refl; layers = refl; outline = refl }
  given Net i j n e = record { track = refl; via = refl; pad = refl; zone = refl; area = refl; edges = refl; things = refl; outlines = refl; net = declared_told i j e; stamp = refl; layers = refl; outline = refl }
  given Track i j n e =
      record {
        track = ap Some (track_told i j e);
        via = refl;
        pad = refl;
        zone = refl;
        area = refl;
        edges = refl;
        things = refl;
        outlines = refl;
        net = refl;
        stamp = own_stamp_two c.bytes d.bytes i j (weak_of c.bytes d.bytes i j e);
        layers = refl;
        outline = refl;
      }
  given CurvedTrack i j n e = record { track = refl; via = refl; pad = refl; zone = refl; area = refl; edges = refl; things = refl; outlines = refl; net = refl; stamp = refl; layers = refl; outline = refl }
  given Via i j n e =
      record {
        track = refl;
        via = ap Some (via_told i j e);
        pad = refl;
        zone = refl;
        area = refl;
        edges = refl;
        things = refl;
        outlines = refl;
        net = refl;
        stamp = own_stamp_two c.bytes d.bytes i j (weak_of c.bytes d.bytes i j e);
        layers = refl;
        outline = refl;
      }
  given Footprint i j n e = record { track = refl; via = refl; pad = refl; zone = refl; area = refl; edges = refl; things = refl; outlines = refl; net = refl; stamp = refl; layers = refl; outline = refl }
  given RuleArea i j n w =
      record {
        track = refl;
        via = refl;
        pad = refl;
        zone = refl;
        area = two (λ p x. cond p (Some x) None) (read_area_told i j w) (area_told i j w);
        edges = refl;
        things = refl;
        outlines = both_cond (read_area_told i j w) refl refl;
        net = refl;
        stamp = own_stamp_two c.bytes d.bytes i j w;
        layers = refl;
        outline = read_area_told i j w;
      }
  given Zone i j n w =
      record {
        track = refl;
        via = refl;
        pad = refl;
        zone = given_cond unplaced_zone (zone_of c i) (zone_of d j) (is_read_zone c i) (is_read_zone d j) (read_zone_told i j w) (zone_told i j w);
        area = refl;
        edges = refl;
        things = both_cond (read_zone_told i j w) refl refl;
        outlines = both_cond (read_zone_told i j w) refl refl;
        net = refl;
        stamp = own_stamp_two c.bytes d.bytes i j w;
        layers = refl;
        outline = read_zone_told i j w;
      }
  given Drawing i j n e =
      record {
        track = refl;
        via = refl;
        pad = refl;
        zone = refl;
        area = refl;
        edges = things.edges_two c.bytes d.bytes i j e;
        things = ap length (things.edges_two c.bytes d.bytes i j e);
        outlines = refl;
        net = refl;
        stamp = refl;
        layers = refl;
        outline = refl;
      }
  given (Pad f) i j n e = absurd (n f refl)
  given FootprintDrawing i j n e = record { track = refl; via = refl; pad = refl; zone = refl; area = refl; edges = refl; things = refl; outlines = refl; net = refl; stamp = refl; layers = refl; outline = refl }
  given FootprintZone i j n e = record { track = refl; via = refl; pad = refl; zone = refl; area = refl; edges = refl; things = refl; outlines = refl; net = refl; stamp = refl; layers = refl; outline = refl }
  given Other i j n e = record { track = refl; via = refl; pad = refl; zone = refl; area = refl; edges = refl; things = refl; outlines = refl; net = refl; stamp = refl; layers = refl; outline = refl }
