-- The board that a text's tree spells, and the first offence in it.
use Rattle.std.specs.Prelude.{◌≡◌, ℕ, cond, List, [], ◌∷◌, ◌++◌, filter_map, flat_map, Option, None, Some}
use Rattle.sexpr_text.specs.Items.{Item}
use Rattle.board_language.specs.declared.offence.OffenceKind.{OffenceKind}
use Rattle.board_text.specs.Things.{Placed, Thing, Track, Via, RuleArea, Zone, Drawing, Pad, thing_of, items_of_board}
use Rattle.copper_shape.specs.declared.edge.Edge as edges
use Rattle.board_language.specs.declared.board.Track as tracks
use Rattle.board_language.specs.declared.board.Via as vias
use Rattle.board_language.specs.declared.board.Pad as pads
use Rattle.board_language.specs.declared.board.Zone as zones
use Rattle.board_language.specs.declared.board.Area as areas
use Rattle.board_language.specs.declared.board.Rules.{Rules}
use Rattle.board_language.specs.Board as boards
use Rattle.board_text.specs.Items.{Context, context_of, line_of}
use Rattle.board_language.specs.Tracks.{track_of, via_of}
use Rattle.board_language.specs.Pads.{is_read_pad, pad_of}
use Rattle.board_language.specs.Zones.{is_read_zone, is_read_area, zone_of, area_of}
use Rattle.board_language.specs.Edges.{edges_read}
use Rattle.board_language.specs.Offences.{IsKindOf}

-- ---- what each item gives

-- the track of an item, where it is one
abbrev pub track_from : Context → Item → Thing → Option tracks.Track
track_from c item Track = Some (track_of c item)
track_from c item _ = None

-- the via of an item, where it is one
abbrev pub via_from : Context → Item → Thing → Option vias.Via
via_from c item Via = Some (via_of c item)
via_from c item _ = None

-- the pad of an item, where it is one that is read
abbrev pub pad_from : Context → Item → Thing → Option pads.Pad
pad_from c item (Pad footprint) = cond (is_read_pad c item) (Some (pad_of c footprint item)) None
pad_from c item _ = None

-- the zone of an item, where it is one that is read
abbrev pub zone_from : Context → Item → Thing → Option zones.Zone
zone_from c item Zone = cond (is_read_zone c item) (Some (zone_of c item)) None
zone_from c item _ = None

-- the rule area of an item, where it is one that is read
abbrev pub area_from : Context → Item → Thing → Option areas.Area
area_from c item RuleArea = cond (is_read_area c item) (Some (area_of c item)) None
area_from c item _ = None

-- the edges of an item, where it is a drawing
abbrev pub edges_from : Context → Item → Thing → List edges.Edge
edges_from c item Drawing = edges_read c.bytes item
edges_from c item _ = []

-- all things of one kind, in file order
abbrev pub all_of : {X : Type 0} → (Context → Item → Thing → Option X) → Context → List Placed → List X
all_of from c items = filter_map (λ p. from c p.item (thing_of c.bytes p)) items

-- the board of these items, under these rules
abbrev pub board_in : Context → List Placed → Rules → boards.Board
board_in c items rules =
    record {
      layers = c.copper;
      nets = c.nets;
      tracks = all_of track_from c items;
      vias = all_of via_from c items;
      pads = all_of pad_from c items;
      zones = all_of zone_from c items;
      areas = all_of area_from c items;
      edges = flat_map (λ p. edges_from c p.item (thing_of c.bytes p)) items;
      rules = rules;
    }

-- the board that the root of a text's tree spells, where nothing offends
unfoldable pub board_of : List ℕ → Item → Rules → boards.Board
board_of bytes root rules = board_in (context_of bytes root) (items_of_board bytes root) rules

-- ---- the first offence

-- no item of the list offends
abbrev pub AreSound : Context → List Placed → Type 0
AreSound c items = (before after : List Placed) (p : Placed) → items ≡ before ++ p ∷ after → IsKindOf c before p None

-- an item offends in this way, and none of the items before it in the file offends
pub record IsFirstOffence (c : Context) (items : List Placed) (at line : ℕ) (kind : OffenceKind) : Type 0 where
  pub before : List Placed
  pub after : List Placed
  pub item : Placed
  pub stands : items ≡ before ++ item ∷ after
  pub sound : AreSound c before
  pub is_kind : IsKindOf c before item (Some kind)
  pub at_item : at ≡ item.item.from
  pub on_line : line ≡ line_of c.bytes at

-- nothing offends in the board
unfoldable pub IsAccepted : List ℕ → Item → Type 0
IsAccepted bytes root = AreSound (context_of bytes root) (items_of_board bytes root)

-- the first offence in the board stands at this place and line, and is of this kind
unfoldable pub IsOffence : List ℕ → Item → ℕ → ℕ → OffenceKind → Type 0
IsOffence bytes root at line kind = IsFirstOffence (context_of bytes root) (items_of_board bytes root) at line kind
