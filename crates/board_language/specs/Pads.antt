-- What is read of footprints and their pads.
--
--     (footprint ".." (at 10 10 90)
--       (pad "1" thru_hole circle (at 0 0 90) (size 2 2) (drill 1) (layers "*.Cu") (net 1 "GND")))
--
-- A pad's place is that in the unturned footprint; its angle is already the whole one.
use Rattle.std.specs.Prelude.{ℕ, ◌-◌, ◌*◌, ◌/◌, ◌^◌, min, max, Bool, false, not, ◌||◌, ◌==◌, ◌%◌, nat_lt, cond, if◌then◌else◌, List, [], ◌∷◌, map, take, filter, find, codes, slice_get, unwrap_or, Option, None, Some, ℤ, pos, neg_ℤ, ◌+ℤ◌, ◌-ℤ◌, option_map, option_and_then}
use Rattle.std.specs.Option.{option_or}
use Rattle.std.specs.List.{list_any}
use Rattle.std.specs.Str.{bytes_eq}
use Rattle.std.specs.Int.RustNames.{unsigned_abs}
use Rattle.plane.specs.Plane.{box_of}
use Rattle.grid_num.specs.declared.Point.{Point}
use Rattle.grid_num.specs.declared.read.NumFault.{NumFault}
use Rattle.grid_num.specs.declared.read.NumFault.TheVariants.{OutOfRange}
use Rattle.sexpr_text.specs.Items.{Item, is_headed}
use Rattle.board_text.specs.Lists.{is_list, lists_of, behind_head}
use Rattle.touching.specs.Core.{Core, Spot, area, line}
use Rattle.board_language.specs.declared.PadKind.{PadKind}
use Rattle.board_language.specs.declared.PadKind.TheVariants.{Plated, Surface, Hole}
use Rattle.board_language.specs.declared.Join.{Join}
use Rattle.board_language.specs.declared.Join.TheVariants.{Thermal, Solid, Apart, PlatedThermal}
use Rattle.board_text.specs.Fields.{list_of, text_of, says_at}
use Rattle.board_text.specs.Numbers.{first_of, item_fault, length_fault, point_fault, length_fault_at, whole_fault_at, ratio_fault_at, read_or, length_of, length_at, ratio_of, whole_number, value_at, quarter_turns}
use Rattle.board_text.specs.Layers.{has_copper, layer_set}
use Rattle.copper_shape.specs.Shapes.{Copper}
use Rattle.board_language.specs.declared.board.Pad.{Pad}
use Rattle.board_text.specs.Items.{Context, line_of, size_of, length_in, point_in, net_of}

-- ---- types, shapes and layers

-- a pad's number, type and shape are the first three items behind its head
abbrev pub is_type : List ℕ → List ℕ → Item → Bool
is_type bytes name pad = says_at bytes 1 name pad

-- the pad has this shape
abbrev pub is_shape : List ℕ → List ℕ → Item → Bool
is_shape bytes name pad = says_at bytes 2 name pad

-- the pad is a bare hole
abbrev pub is_hole : List ℕ → Item → Bool
is_hole bytes pad = is_type bytes (codes "np_thru_hole") pad

-- what the pad is
abbrev pub kind_of : List ℕ → Item → PadKind
kind_of bytes pad = if is_hole bytes pad then Hole else (if is_type bytes (codes "thru_hole") pad then Plated else Surface)

-- a pad without a copper layer isn't read, unless it is a hole
abbrev pub is_read_pad : Context → Item → Bool
is_read_pad c pad = is_hole c.bytes pad || has_copper c.bytes c.copper (list_of c.bytes (codes "layers") pad)

-- the pads of a footprint
abbrev pub pads_of : List ℕ → Item → List Item
pads_of bytes footprint = filter (is_headed bytes (codes "pad")) (lists_of footprint)

-- a pad of the footprint is read
abbrev pub has_read_pad : Context → Item → Bool
has_read_pad c footprint = list_any (is_read_pad c) (pads_of c.bytes footprint)

-- ---- angles and places

-- how often the angle turns by a quarter
abbrev pub turns_of : List ℕ → Option Item → Option ℕ
turns_of bytes None = Some 0
turns_of bytes (Some item) = option_and_then quarter_turns (text_of bytes item)

-- how often an `at` turns by a quarter, to the left on the screen: not at all where it has no angle; none where the angle
-- is no multiple of 90 degrees
abbrev pub turns_at : List ℕ → Option Item → Option ℕ
turns_at bytes None = Some 0
turns_at bytes (Some at) = turns_of bytes (slice_get (behind_head at) 2)

-- how often an item is turned by a quarter; not at all where its angle can't be read
abbrev pub turns_in : List ℕ → Item → ℕ
turns_in bytes item = unwrap_or (turns_at bytes (list_of bytes (codes "at") item)) 0

-- a quarter turn takes (x, y) to (y, -x)
unfoldable pub turned_by : ℕ → Point → Point
turned_by turns p =
    if turns == 1 then record { x = p.y; y = neg_ℤ p.x }
    else (if turns == 2 then record { x = neg_ℤ p.x; y = neg_ℤ p.y }
    else (if turns == 3 then record { x = neg_ℤ p.y; y = p.x } else p))

-- a pad's place on the board: its footprint's place, and its own, turned with the footprint
unfoldable pub pad_place : List ℕ → Item → Item → Point
pad_place bytes footprint pad =
    let base = point_in bytes (codes "at") footprint in
    let own = turned_by (turns_in bytes footprint) (point_in bytes (codes "at") pad) in
    record { x = base.x +ℤ own.x; y = base.y +ℤ own.y }

-- beyond 500 mm
abbrev pub is_far : ℤ → Bool
is_far z = nat_lt 500000000 (unsigned_abs z)

-- the pad lies beyond 500 mm once its footprint is turned
abbrev pub place_fault : List ℕ → Item → Item → Option NumFault
place_fault bytes footprint pad =
    cond (is_far (pad_place bytes footprint pad).x || is_far (pad_place bytes footprint pad).y) (Some OutOfRange) None

-- ---- sizes

-- the items of a drill that are no lists, without a first word `oval`
abbrev pub without_oval : List ℕ → List Item → List Item
without_oval bytes [] = []
without_oval bytes (item ∷ items) = cond (is_oval (text_of bytes item)) items (item ∷ items)
  where
    is_oval : Option (List ℕ) → Bool
    is_oval None = false
    is_oval (Some text) = bytes_eq text (codes "oval")

-- the words of a drill that spell its size
abbrev pub drill_items : List ℕ → Option Item → List Item
drill_items bytes None = []
drill_items bytes (Some drill) = take 2 (without_oval bytes (filter (λ item. not (is_list item)) (behind_head drill)))

-- the words of a pad's drill that spell its size
abbrev pub drill_of : List ℕ → Item → List Item
drill_of bytes pad = drill_items bytes (list_of bytes (codes "drill") pad)

-- the length that an item spells; 0 for a list
abbrev pub length_from : List ℕ → Item → ℤ
length_from bytes item = read_or length_of (pos 0) (text_of bytes item)

-- one number is width and height; where there is none, both are 0
abbrev pub drill_width : List ℕ → List Item → ℤ
drill_width bytes [] = pos 0
drill_width bytes (width ∷ items) = length_from bytes width

-- the second number, or else the first
abbrev pub drill_height : List ℕ → List Item → ℤ
drill_height bytes [] = pos 0
drill_height bytes (width ∷ []) = length_from bytes width
drill_height bytes (width ∷ height ∷ items) = length_from bytes height

-- a width and a height in nanometres
pub record Size : Type 0 where
  pub width : ℕ
  pub height : ℕ

-- the size that the pad states
abbrev pub written_size : List ℕ → Item → Size
written_size bytes pad =
    record {
      width = size_of (length_at bytes 0 (list_of bytes (codes "size") pad));
      height = size_of (length_at bytes 1 (list_of bytes (codes "size") pad));
    }

-- a hole is at least as wide and as high as its drill
abbrev pub drilled_size : List ℕ → Item → Size
drilled_size bytes pad =
    if is_hole bytes pad then
    record {
      width = max (written_size bytes pad).width (size_of (drill_width bytes (drill_of bytes pad)));
      height = max (written_size bytes pad).height (size_of (drill_height bytes (drill_of bytes pad)));
    }
    else written_size bytes pad

-- an odd number of quarter turns swaps width and height
abbrev pub swapped : ℕ → Size → Size
swapped turns s = if turns % 2 == 1 then record { width = s.height; height = s.width } else s

-- the size once the footprint and the pad are turned
unfoldable pub size_on_board : List ℕ → Item → Size
size_on_board bytes pad = swapped (turns_in bytes pad) (drilled_size bytes pad)

-- ---- shapes, in halves of a nanometre: a width of w nm is a half extent of w halves

-- in halves, twice the nanometres
abbrev pub double : ℤ → ℤ
double z = z +ℤ z

-- the box round a place, of these half extents
abbrev pub box_round : Point → ℕ → ℕ → Core
box_round at half_width half_height =
    area (box_of (double at.x -ℤ pos half_width) (double at.x +ℤ pos half_width) (double at.y -ℤ pos half_height) (double at.y +ℤ pos half_height))

-- a disc as wide as the pad
abbrev pub circle : Point → Size → Copper
circle at s = record { core = box_round at 0 0; radius = s.width }

-- a box of the pad's size
abbrev pub rectangle : Point → Size → Copper
rectangle at s = record { core = box_round at s.width s.height; radius = 0 }

-- a place in halves of a nanometre
abbrev pub half_spot : ℤ → ℤ → Spot
half_spot x y = record { x = x; y = y }

-- a segment along the longer side, as long as width and height differ
abbrev pub oval : Point → Size → Copper
oval at s =
    record {
      core = line (half_spot (double at.x -ℤ pos (s.width - s.height)) (double at.y -ℤ pos (s.height - s.width)))
          (half_spot (double at.x +ℤ pos (s.width - s.height)) (double at.y +ℤ pos (s.height - s.width)));
      radius = min s.width s.height;
    }

-- the radius of the corners, in halves: the ratio of the shorter side, rounded down
abbrev pub corner_radius : ℕ → Size → ℕ
corner_radius ratio s = (2 * (min s.width s.height * ratio)) / 10 ^ 10

-- a box with rounded corners of this radius
abbrev pub rounded_by : ℕ → Point → Size → Copper
rounded_by radius at s = record { core = box_round at (s.width - radius) (s.height - radius); radius = radius }

-- the ratio of a rounded rectangle, in ten-thousand-millionths; a quarter where none is given
abbrev pub ratio_in : List ℕ → Item → ℤ
ratio_in bytes pad = value_at ratio_of bytes 0 (pos 2500000000) (list_of bytes (codes "roundrect_rratio") pad)

-- the copper of a pad of this place and size
unfoldable pub shape_of : List ℕ → Item → Point → Size → Copper
shape_of bytes pad at s =
    if is_shape bytes (codes "circle") pad then circle at s
    else (if is_shape bytes (codes "oval") pad then oval at s
    else (if is_shape bytes (codes "roundrect") pad then rounded_by (corner_radius (size_of (ratio_in bytes pad)) s) at s else rectangle at s))

-- ---- how a pad is joined

-- a length above 0
abbrev pub some_length : ℤ → Option ℕ
some_length z = cond (size_of z == 0) None (Some (size_of z))

-- a length of 0 at a pad or a footprint counts as absent
abbrev pub own_length : List ℕ → List ℕ → Item → Option ℕ
own_length bytes name item = some_length (length_in bytes name item)

-- of a pad's two lists for the width of bridges the first counts
abbrev pub bridge_list : List ℕ → Item → Option Item
bridge_list bytes pad =
    find (λ list. is_headed bytes (codes "thermal_bridge_width") list || is_headed bytes (codes "thermal_width") list) (lists_of pad)

-- what a `zone_connect` of this number says
abbrev pub join_by_number : ℕ → Join
join_by_number n = if n == 0 then Apart else (if n == 1 then Thermal else (if n == 2 then Solid else PlatedThermal))

-- what an item says of how its pads are joined
abbrev pub own_join : List ℕ → Item → Option Join
own_join bytes item = option_map (λ list. join_by_number (value_at whole_number bytes 0 0 (Some list))) (list_of bytes (codes "zone_connect") item)

-- what a pad doesn't say, its footprint says for it
unfoldable pub pad_of : Context → Item → Item → Pad
pad_of c footprint pad =
    record {
      shape = shape_of c.bytes pad (pad_place c.bytes footprint pad) (size_on_board c.bytes pad);
      at = pad_place c.bytes footprint pad;
      layers = layer_set c.bytes c.copper (list_of c.bytes (codes "layers") pad);
      net = net_of c.bytes pad;
      kind = kind_of c.bytes pad;
      clearance = unwrap_or (option_or (own_length c.bytes (codes "clearance") pad) (own_length c.bytes (codes "clearance") footprint)) 0;
      join = option_or (own_join c.bytes pad) (own_join c.bytes footprint);
      gap = option_or (own_length c.bytes (codes "thermal_gap") pad) (own_length c.bytes (codes "thermal_gap") footprint);
      bridge = option_or (some_length (length_at c.bytes 0 (bridge_list c.bytes pad))) (own_length c.bytes (codes "thermal_width") footprint);
      line = line_of c.bytes pad.from;
    }

-- ---- the first of the numbers that can't be read, in the order in which they are read

-- the first of the drill's numbers that can't be read; only a hole's drill is read
abbrev pub drill_fault : List ℕ → Item → Option NumFault
drill_fault bytes pad = if is_hole bytes pad then first_of (map (item_fault length_fault bytes) (drill_of bytes pad)) else None

-- what may be wrong with a pad's numbers
abbrev pub pad_faults : List ℕ → Item → Item → List (Option NumFault)
pad_faults bytes footprint pad =
    point_fault bytes (list_of bytes (codes "at") pad)
    ∷ place_fault bytes footprint pad
    ∷ point_fault bytes (list_of bytes (codes "size") pad)
    ∷ drill_fault bytes pad
    ∷ whole_fault_at bytes 0 (list_of bytes (codes "net") pad)
    ∷ ratio_fault_at bytes 0 (list_of bytes (codes "roundrect_rratio") pad)
    ∷ length_fault_at bytes 0 (list_of bytes (codes "clearance") pad)
    ∷ whole_fault_at bytes 0 (list_of bytes (codes "zone_connect") pad)
    ∷ length_fault_at bytes 0 (list_of bytes (codes "thermal_gap") pad)
    ∷ length_fault_at bytes 0 (bridge_list bytes pad)
    ∷ []

-- the first of it
unfoldable pub pad_fault : List ℕ → Item → Item → Option NumFault
pad_fault bytes footprint pad = first_of (pad_faults bytes footprint pad)

-- the first of a footprint's numbers that can't be read
unfoldable pub footprint_fault : List ℕ → Item → Option NumFault
footprint_fault bytes item =
    first_of (
    point_fault bytes (list_of bytes (codes "at") item)
    ∷ length_fault_at bytes 0 (list_of bytes (codes "clearance") item)
    ∷ whole_fault_at bytes 0 (list_of bytes (codes "zone_connect") item)
    ∷ length_fault_at bytes 0 (list_of bytes (codes "thermal_gap") item)
    ∷ length_fault_at bytes 0 (list_of bytes (codes "thermal_width") item)
    ∷ [])
