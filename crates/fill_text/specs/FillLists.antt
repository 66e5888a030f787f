-- The fills that stand in the text of a board: the `filled_polygon` lists of its copper zones. Which rings they give its tasks,
-- and which of them can't be read.
--
--     (zone (net 1) (layers "F.Cu" "B.Cu") ..
--       (filled_polygon                          a fill of the zone,
--         (layer "F.Cu")                         on this one of its layers,
--         (pts (xy 0 0) (xy 10 0) (xy 5 8))))    with these corners
--
-- Lists `fill_segments` aren't read, nor are the fills of rule areas and of zones without a copper layer.
use Rattle.std.specs.Prelude.{◌≡◌, ℕ, Bool, false, not, ◌&&◌, is_none, is_some, List, [], ◌∷◌, map, filter, length, get_or, codes, option_and_then, Option, None, Some}
use Rattle.std.specs.List.{flat_map, list_all}
use Rattle.grid_num.specs.declared.Point.{Point}
use Rattle.sexpr_text.specs.Grammar.Forest.{Nil}
use Rattle.sexpr_text.specs.Items.{Item, children_of, is_headed}
use Rattle.sexpr_text.specs.declared.NodeKind.TheVariants as kinds
use Rattle.board_text.specs.Lists.{lists_of, behind_head}
use Rattle.board_text.specs.Fields.{list_of, text_at, is_text}
use Rattle.board_text.specs.Numbers.{is_short, point_fault}
use Rattle.board_text.specs.Layers.{Name, is_among}
use Rattle.board_text.specs.Items.{Context, context_of, point_at}
use Rattle.board_text.specs.Things.{on_board}
use Rattle.board_language.specs.Zones.{zone_of}
use Rattle.board_language.specs.Reading.{zone_from}
use Rattle.board_language.specs.Board.{Board}
use Rattle.fill_rules.specs.Tasks.{Task, layers_below, ranked}
use Rattle.output_rules.specs.Output.{layer_name}

-- ---- the corners of a fill

-- a corner can be read where it is a list with the head `xy` whose next two items spell lengths
abbrev pub is_corner : List ℕ → Item → Bool
is_corner bytes item = is_headed bytes (codes "xy") item && (not (is_short 2 (Some item)) && is_none (point_fault bytes (Some item)))

-- all items behind the head of a list that may be absent
abbrev pub items_behind : Option Item → List Item
items_behind None = []
items_behind (Some list) = behind_head list

-- the corners are the items of the fill's `pts`; a fill without `pts` has none
abbrev pub corner_items : List ℕ → Item → List Item
corner_items bytes fill = items_behind (list_of bytes (codes "pts") fill)

-- the ring along the corners, in nanometres
abbrev pub ring_of : List ℕ → Item → List Point
ring_of bytes fill = map (λ corner. point_at bytes (Some corner)) (corner_items bytes fill)

-- ---- the layer of a fill

-- the layer that a fill names: what stands first in its first `layer`, taken for itself, so that `*.Cu` is no layer
abbrev pub layer_of : List ℕ → Item → Option Name
layer_of bytes fill = option_and_then (text_at bytes 0) (list_of bytes (codes "layer") fill)

-- a name that may be absent is one of these
abbrev pub is_some_name : List Name → Option Name → Bool
is_some_name names None = false
is_some_name names (Some name) = is_among names name

-- of the board's layers the names of those in the set
abbrev pub names_of_set : List Name → ℕ → List Name
names_of_set layers set = map (λ l. get_or layers l []) (layers_below set (length layers))

-- ---- the fills of a zone

-- a fill can be read where it is on one of the layers with these names and each of its corners can be read
abbrev pub can_be_read : List ℕ → List Name → Item → Bool
can_be_read bytes names fill = is_some_name names (layer_of bytes fill) && list_all (is_corner bytes) (corner_items bytes fill)

-- a fill that can't be read
abbrev pub is_bad : List ℕ → List Name → Item → Bool
is_bad bytes names list = is_headed bytes (codes "filled_polygon") list && not (can_be_read bytes names list)

-- a fill on the layer of this name
abbrev pub is_fill_on : List ℕ → Name → Item → Bool
is_fill_on bytes name list = is_headed bytes (codes "filled_polygon") list && is_text name (layer_of bytes list)

-- the fills of a zone on the layers with these names that can't be read, in file order
abbrev pub bad_among : List ℕ → List Name → Item → List Item
bad_among bytes names zone = filter (is_bad bytes names) (children_of zone)

-- the rings of its fills on a layer, in file order
abbrev pub rings_on : List ℕ → Name → Item → List (List Point)
rings_on bytes name zone = map (ring_of bytes) (filter (is_fill_on bytes name) (children_of zone))

-- ---- the zones

-- the list is one of the board's copper zones
abbrev pub is_copper_zone : Context → Item → Bool
is_copper_zone c list = is_some (zone_from c list (on_board c.bytes list))

-- the copper zones of a board, each as its list, in file order
unfoldable pub zones_in : List ℕ → Item → List Item
zones_in bytes root = filter (is_copper_zone (context_of bytes root)) (lists_of root)

-- the names of the layers that a zone is on
abbrev pub names_of_zone : Context → Item → List Name
names_of_zone c zone = names_of_set c.copper (zone_of c zone).layers

-- of a zone's fills those that can't be read, in file order
abbrev pub bad_of_zone : Context → Item → List Item
bad_of_zone c zone = bad_among c.bytes (names_of_zone c zone) zone

-- of a board's fills those that can't be read, in file order
unfoldable pub bad_fills : List ℕ → Item → List Item
bad_fills bytes root = flat_map (bad_of_zone (context_of bytes root)) (zones_in bytes root)

-- what stands past the last zone: a list with nothing in it
abbrev pub no_list : Item
no_list = record { kind = kinds.List; from = 0; to = 0; inner = Nil }

-- the rings of a task: those of its zone's fills on its layer
abbrev pub rings_of_task : List ℕ → Item → Board → Task → List (List Point)
rings_of_task bytes root b t = rings_on bytes (layer_name b t.layer) (get_or (zones_in bytes root) t.zone no_list)

-- the rings of all tasks of the board that these bytes spell, in rank order
unfoldable pub rings_in : List ℕ → Item → Board → List (List (List Point))
rings_in bytes root b = map (rings_of_task bytes root b) (ranked b)

-- each fill of the board can be read, and these are the rings of its tasks
pub record AreRingsRead (bytes : List ℕ) (root : Item) (b : Board) (rings : List (List (List Point))) : Type 0 where
  pub sound : bad_fills bytes root ≡ []
  pub rings_are : rings ≡ rings_in bytes root b

-- the first of these fills stands at this place
pub record IsFirstOf (fills : List Item) (at : ℕ) : Type 0 where
  pub fill : Item
  pub later : List Item
  pub first : fills ≡ fill ∷ later
  pub stands : at ≡ fill.from
