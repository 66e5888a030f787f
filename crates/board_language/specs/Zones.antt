-- What is read of zones and rule areas.
--
--     (zone (net 1) (net_name "GND") (layer "F.Cu") (tstamp ..) (hatch edge 0.5) (priority 2)
--       (connect_pads thru_hole_only (clearance 0.2))
--       (min_thickness 0.25)
--       (fill yes (thermal_gap 0.5) (thermal_bridge_width 0.5) (island_removal_mode 2) (island_area_min 10))
--       (polygon (pts (xy 0 0) (xy 10 0) (xy 10 10) (xy 0 10)))
--       (filled_polygon (layer "F.Cu") (pts ..)))
--
-- A `zone` with a `keepout` is a rule area, of which the layers and the outline are read.
use Rattle.std.specs.Prelude.{ℕ, Bool, ◌&&◌, ◌||◌, ◌==◌, if◌then◌else◌, List, [], ◌∷◌, map, filter, find, codes, unwrap_or, Option, None, Some, ℤ, pos, option_map}
use Rattle.std.specs.Str.{bytes_eq}
use Rattle.std.specs.Int.{int_div_euclid}
use Rattle.grid_num.specs.declared.Point.{Point}
use Rattle.grid_num.specs.declared.read.NumFault.{NumFault}
use Rattle.sexpr_text.specs.Items.{Item, is_headed}
use Rattle.sexpr_text.specs.declared.Span.{Span}
use Rattle.board_text.specs.Lists.{lists_of}
use Rattle.board_language.specs.declared.Join.{Join}
use Rattle.board_language.specs.declared.Join.TheVariants.{Thermal, Solid, Apart, PlatedThermal}
use Rattle.board_language.specs.declared.IslandMode.{IslandMode}
use Rattle.board_language.specs.declared.IslandMode.TheVariants.{Remove, Keep, Below}
use Rattle.board_text.specs.Fields.{list_of, list_in, says_at, texts_of, passes}
use Rattle.board_text.specs.Numbers.{first_of, point_fault, length_fault_at, area_fault_at, whole_fault_at, value_at, length_of, area_number, whole_number}
use Rattle.board_text.specs.Layers.{has_copper, layer_set}
use Rattle.board_language.specs.declared.board.Zone.{Zone}
use Rattle.board_language.specs.declared.board.ZoneSpans.{ZoneSpans}
use Rattle.board_language.specs.declared.board.Area.{Area}
use Rattle.board_text.specs.Items.{Context, line_of, span_of, tail_of, size_of, point_at, whole_in, net_of}

-- ---- which are read

-- of a zone's two lists of layers the first counts
abbrev pub layer_list : List ℕ → Item → Option Item
layer_list bytes zone = find (λ list. is_headed bytes (codes "layer") list || is_headed bytes (codes "layers") list) (lists_of zone)

-- a zone without a copper layer isn't read
abbrev pub is_read_zone : Context → Item → Bool
is_read_zone c zone = has_copper c.bytes c.copper (layer_list c.bytes zone)

-- nor is a rule area that allows copper pour
abbrev pub keeps_copper_out : List ℕ → Item → Bool
keeps_copper_out bytes zone = passes (says_at bytes 0 (codes "not_allowed")) (list_in bytes (codes "keepout") (codes "copperpour") zone)

-- a rule area is read where it keeps copper out, on a copper layer
abbrev pub is_read_area : Context → Item → Bool
is_read_area c zone = keeps_copper_out c.bytes zone && is_read_zone c zone

-- ---- the outline

-- the points of the outline
abbrev pub points_list : List ℕ → Item → Option Item
points_list bytes zone = list_in bytes (codes "polygon") (codes "pts") zone

-- the lists among the points; words and strings among them are passed over
abbrev pub lists_in : Option Item → List Item
lists_in None = []
lists_in (Some list) = lists_of list

-- each point of the outline
abbrev pub corner_lists : List ℕ → Item → List Item
corner_lists bytes zone = lists_in (points_list bytes zone)

-- the corners in nanometres, in their order
unfoldable pub corners_read : List ℕ → Item → List Point
corners_read bytes zone = map (λ list. point_at bytes (Some list)) (corner_lists bytes zone)

-- nanometres in units of 2 nm
abbrev pub corner_in_units : Point → Point
corner_in_units p = record { x = int_div_euclid p.x (pos 2); y = int_div_euclid p.y (pos 2) }

-- the corners in units, in their order
abbrev pub outline_of : List ℕ → Item → List Point
outline_of bytes zone = map corner_in_units (corners_read bytes zone)

-- ---- settings

-- a list in the list with the first head, read as a length; where it is absent, what stands for it
abbrev pub length_or : ℤ → List ℕ → Option Item → ℤ
length_or absent bytes list = value_at length_of bytes 0 absent list

-- where the clearance stands
abbrev pub clearance_list : List ℕ → Item → Option Item
clearance_list bytes zone = list_in bytes (codes "connect_pads") (codes "clearance") zone

-- where the gap of thermal reliefs stands
abbrev pub gap_list : List ℕ → Item → Option Item
gap_list bytes zone = list_in bytes (codes "fill") (codes "thermal_gap") zone

-- where the width of their bridges stands
abbrev pub bridge_list : List ℕ → Item → Option Item
bridge_list bytes zone = list_in bytes (codes "fill") (codes "thermal_bridge_width") zone

-- where it stands how islands are removed
abbrev pub mode_list : List ℕ → Item → Option Item
mode_list bytes zone = list_in bytes (codes "fill") (codes "island_removal_mode") zone

-- the clearance; 0 where none is given
abbrev pub clearance_in : List ℕ → Item → ℤ
clearance_in bytes zone = length_or (pos 0) bytes (clearance_list bytes zone)

-- the minimum thickness; 0.25 mm where none is given
abbrev pub thickness_in : List ℕ → Item → ℤ
thickness_in bytes zone = length_or (pos 250000) bytes (list_of bytes (codes "min_thickness") zone)

-- the gap of thermal reliefs; 0.5 mm where none is given
abbrev pub gap_in : List ℕ → Item → ℤ
gap_in bytes zone = length_or (pos 500000) bytes (gap_list bytes zone)

-- the width of their bridges; 0.5 mm where none is given
abbrev pub bridge_in : List ℕ → Item → ℤ
bridge_in bytes zone = length_or (pos 500000) bytes (bridge_list bytes zone)

-- how islands are removed: 0 always, 1 never, 2 below an area
abbrev pub mode_in : List ℕ → Item → ℕ
mode_in bytes zone = value_at whole_number bytes 0 0 (mode_list bytes zone)

-- where the area of the least island that stays is given; it is read only where islands are removed below an area
abbrev pub island_area_list : List ℕ → Item → Option Item
island_area_list bytes zone = if mode_in bytes zone == 2 then list_in bytes (codes "fill") (codes "island_area_min") zone else None

-- that area, in millionths of a square millimetre; 10 square millimetres where none is given
abbrev pub island_area_in : List ℕ → Item → ℕ
island_area_in bytes zone = value_at area_number bytes 0 10000000 (island_area_list bytes zone)

-- which islands stay, by the mode and the area
abbrev pub islands_by : ℕ → ℕ → IslandMode
islands_by mode area = if mode == 0 then Remove else (if mode == 1 then Keep else Below area)

-- which islands stay; none where nothing is said
unfoldable pub islands_in : List ℕ → Item → IslandMode
islands_in bytes zone = islands_by (mode_in bytes zone) (island_area_in bytes zone)

-- the words of `connect_pads` that say how pads are joined
abbrev pub join_by_word : List ℕ → Option Join
join_by_word text =
    if bytes_eq text (codes "yes") || bytes_eq text (codes "full") then Some Solid
    else (if bytes_eq text (codes "no") then Some Apart else (if bytes_eq text (codes "thru_hole_only") then Some PlatedThermal else None))

-- the first of them counts
abbrev pub first_join : List (List ℕ) → Join
first_join [] = Thermal
first_join (text ∷ texts) = unwrap_or (join_by_word text) (first_join texts)

-- how pads are joined; thermally where nothing is said
abbrev pub join_in : List ℕ → Option Item → Join
join_in bytes None = Thermal
join_in bytes (Some connect) = first_join (texts_of bytes connect)

-- ---- places

-- where a list stands that may be absent
abbrev pub span_or_none : Option Item → Option Span
span_or_none list = option_map span_of list

-- a fill that was written before
abbrev pub is_fill : List ℕ → Item → Bool
is_fill bytes list = is_headed bytes (codes "filled_polygon") list || is_headed bytes (codes "fill_segments") list

-- where the lists of a zone stand that are replaced, and where its rings go
unfoldable pub spans_of : List ℕ → Item → ZoneSpans
spans_of bytes zone =
    record {
      priority = span_or_none (list_of bytes (codes "priority") zone);
      connect = span_or_none (list_of bytes (codes "connect_pads") zone);
      clearance = span_or_none (clearance_list bytes zone);
      tail = tail_of bytes zone;
      fills = map span_of (filter (is_fill bytes) (lists_of zone));
    }

-- ---- the whole

-- the zone that is read of an item
unfoldable pub zone_of : Context → Item → Zone
zone_of c zone =
    record {
      outline = outline_of c.bytes zone;
      layers = layer_set c.bytes c.copper (layer_list c.bytes zone);
      net = net_of c.bytes zone;
      priority = whole_in c.bytes (codes "priority") zone;
      join = join_in c.bytes (list_of c.bytes (codes "connect_pads") zone);
      clearance = size_of (clearance_in c.bytes zone);
      thickness = size_of (thickness_in c.bytes zone);
      gap = size_of (gap_in c.bytes zone);
      bridge = size_of (bridge_in c.bytes zone);
      islands = islands_in c.bytes zone;
      spans = spans_of c.bytes zone;
      span = span_of zone;
      line = line_of c.bytes zone.from;
    }

-- the rule area that is read of an item
unfoldable pub area_of : Context → Item → Area
area_of c zone = record { outline = outline_of c.bytes zone; layers = layer_set c.bytes c.copper (layer_list c.bytes zone) }

-- ---- the first of the numbers that can't be read, in the order in which they are read

-- of the outline's numbers the first that can't be read
unfoldable pub corners_fault : List ℕ → Item → Option NumFault
corners_fault bytes zone = first_of (map (λ list. point_fault bytes (Some list)) (corner_lists bytes zone))

-- of a zone's numbers the first that can't be read
unfoldable pub zone_fault : List ℕ → Item → Option NumFault
zone_fault bytes zone =
    first_of (
    whole_fault_at bytes 0 (list_of bytes (codes "net") zone)
    ∷ whole_fault_at bytes 0 (list_of bytes (codes "priority") zone)
    ∷ length_fault_at bytes 0 (clearance_list bytes zone)
    ∷ length_fault_at bytes 0 (list_of bytes (codes "min_thickness") zone)
    ∷ length_fault_at bytes 0 (gap_list bytes zone)
    ∷ length_fault_at bytes 0 (bridge_list bytes zone)
    ∷ whole_fault_at bytes 0 (mode_list bytes zone)
    ∷ area_fault_at bytes 0 (island_area_list bytes zone)
    ∷ corners_fault bytes zone
    ∷ [])
