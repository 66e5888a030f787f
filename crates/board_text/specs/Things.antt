-- The items of a board in the order of the file, and what each of them is: the board itself, each list in it, and each
-- list in a footprint.
use Rattle.std.specs.Prelude.{ℕ, Bool, ◌||◌, cond, if◌then◌else◌, List, [], ◌∷◌, map, flat_map, codes}
use Rattle.sexpr_text.specs.Items.{Item, is_headed}
use Rattle.board_text.specs.Lists.{lists_of}
use Rattle.board_text.specs.Fields.{head_begins, has_list}

-- where an item stands
pub data Site : Type 0 where
  -- the item is the board itself
  Root : Site
  -- it is a list of the board
  OnBoard : Site
  -- it is a list of this footprint
  InFootprint : Item → Site

-- an item, and where it stands
pub record Placed : Type 0 where
  pub item : Item
  pub site : Site

-- the lists of an item that is a footprint
abbrev pub in_footprint : List ℕ → Item → List Placed
in_footprint bytes item = cond (is_headed bytes (codes "footprint") item) (map (λ i. record { item = i; site = InFootprint item }) (lists_of item)) []

-- a list of the board, and those in it where it is a footprint
abbrev pub with_own : List ℕ → Item → List Placed
with_own bytes item = record { item = item; site = OnBoard } ∷ in_footprint bytes item

-- all items, in the order of their places in the file
unfoldable pub items_of_board : List ℕ → Item → List Placed
items_of_board bytes board = record { item = board; site = Root } ∷ flat_map (with_own bytes) (lists_of board)

-- what an item is
pub data Thing : Type 0 where
  Board : Thing
  Layers : Thing
  Net : Thing
  Track : Thing
  CurvedTrack : Thing
  Via : Thing
  Footprint : Thing
  -- a `zone` with a `keepout`
  RuleArea : Thing
  Zone : Thing
  -- a drawing, text, picture or dimension of the board
  Drawing : Thing
  -- a pad of this footprint
  Pad : Item → Thing
  -- a drawing, text or picture of a footprint
  FootprintDrawing : Thing
  FootprintZone : Thing
  Other : Thing

-- a dimension, a target or a picture
abbrev pub is_picture : List ℕ → Item → Bool
is_picture bytes item =
    is_headed bytes (codes "dimension") item || (is_headed bytes (codes "target") item || is_headed bytes (codes "image") item)

-- what a `zone` of the board is
abbrev pub zone_thing : List ℕ → Item → Thing
zone_thing bytes item = cond (has_list bytes (codes "keepout") item) RuleArea Zone

-- what a list of the board is that is none of the others
abbrev pub drawing_thing : List ℕ → Item → Thing
drawing_thing bytes item = cond (head_begins bytes (codes "gr_") item || is_picture bytes item) Drawing Other

-- what a list of the board is, by its head
abbrev pub on_board : List ℕ → Item → Thing
on_board bytes item =
    if is_headed bytes (codes "layers") item then Layers
    else (if is_headed bytes (codes "net") item then Net
    else (if is_headed bytes (codes "segment") item then Track
    else (if is_headed bytes (codes "arc") item then CurvedTrack
    else (if is_headed bytes (codes "via") item then Via
    else (if is_headed bytes (codes "footprint") item then Footprint
    else (if is_headed bytes (codes "zone") item then zone_thing bytes item else drawing_thing bytes item))))))

-- what a list of a footprint is, by its head
abbrev pub of_footprint : List ℕ → Item → Item → Thing
of_footprint bytes footprint item =
    if is_headed bytes (codes "pad") item then Pad footprint
    else (if is_headed bytes (codes "zone") item then FootprintZone
    else (if head_begins bytes (codes "fp_") item || is_headed bytes (codes "image") item then FootprintDrawing else Other))

-- what an item is, by where it stands
unfoldable pub thing_of : List ℕ → Placed → Thing
thing_of bytes p = by_site p.site
  where
    by_site : Site → Thing
    by_site Root = Board
    by_site OnBoard = on_board bytes p.item
    by_site (InFootprint footprint) = of_footprint bytes footprint p.item
