-- What offends in an item, by what the item is. An item is tried with what holds for the whole board and with the items
-- before it in the file.
use Rattle.std.specs.Prelude.{◌≡◌, ℕ, Bool, true, false, not, ◌&&◌, ◌||◌, nat_lt, cond, is_none, List, [], ◌∷◌, map, filter, filter_map, length, codes, Option, None, Some, ℤ, pos, int_lt, option_map}
use Rattle.std.specs.List.{list_any}
use Rattle.std.specs.Str.{bytes_eq}
use Rattle.grid_num.specs.declared.read.NumFault.{NumFault}
use Rattle.sexpr_text.specs.Items.{Item, is_headed}
use Rattle.board_text.specs.Lists.{headed}
use Rattle.outline_slab.specs.declared.error.OutlineFault.{OutlineFault}
use Rattle.outline_slab.specs.Faults as outlines
use Rattle.outline_slab.specs.Rules.{IsOutline}
use Rattle.grid_num.specs.declared.Point.{Point}
use Rattle.std.specs.Option.{option_or}
use Rattle.board_language.specs.declared.offence.OffenceKind.{OffenceKind}
use Rattle.board_language.specs.declared.offence.OffenceKind.TheVariants as kinds
use Rattle.board_text.specs.Fields.{list_of, list_in, has_list, lacks, head_begins, text_at, says_at, texts_of, passes}
use Rattle.board_text.specs.Numbers.{is_decimal, is_zero, whole_fault, whole_number, first_of, whole_fault_at, is_short, has_short, length_at}
use Rattle.board_text.specs.Layers.{Name, is_among, has_double, is_copper, layers_in, name_of_layer, layers_fault, layer_names_in, has_unknown, is_edge_name, is_drawn_on, layer_names}
use Rattle.board_text.specs.Things.{Placed, Thing, Board, Layers, Net, Track, CurvedTrack, Via, Footprint, RuleArea, Zone, Drawing, Pad, FootprintDrawing, FootprintZone, Other, thing_of}
use Rattle.board_text.specs.Items.{Context, size_of, is_no_length, is_no_size, is_bad_length, has_bad_length, has_bad_size, length_in, whole_in, net_of, declared_net, has_number, is_unknown_net, stamp_in, version_of}
use Rattle.board_language.specs.Tracks.{track_layer, via_layer, track_fault, via_fault}
use Rattle.board_language.specs.Pads.{is_type, is_shape, is_read_pad, has_read_pad, turns_at, drill_of, drill_width, drill_height, ratio_in, bridge_list, pad_fault, footprint_fault, is_hole}
use Rattle.board_language.specs.Zones as zones
use Rattle.board_language.specs.Edges.{is_edge, is_on_copper, is_curved, lacks_points, edge_fault}
use Rattle.board_language.specs.Counts.{is_one_too_many}

-- the kind, where the test holds
abbrev pub when : OffenceKind → Bool → Option OffenceKind
when kind test = cond test (Some kind) None

-- a number that can't be read
abbrev pub number_offence : Option NumFault → Option OffenceKind
number_offence fault = option_map kinds.Number fault

-- the kinds are tried in their order, and the first that holds counts
abbrev pub first_kind : List (Option OffenceKind) → Option OffenceKind
first_kind [] = None
first_kind (kind ∷ more) = option_or kind (first_kind more)

-- ---- the board

-- The versions of texts that are read: from 20211014 to 20241231. The upper end is chosen here, and is that of no editor.
abbrev pub is_version : ℕ → Bool
is_version n = nat_lt 20211013 n && nat_lt n 20241232

-- the first offence of the board itself
unfoldable pub board_kind : Context → Item → Option OffenceKind
board_kind c board =
    first_kind (
    when kinds.NotBoard (not (is_headed c.bytes (codes "kicad_pcb") board))
    ∷ when kinds.Version (not (is_version (version_of c.bytes board)))
    ∷ when kinds.MissingPart (not (has_list c.bytes (codes "layers") board))
    ∷ [])

-- ---- layers: the first `layers` of the board is read

-- the first offence of `layers`
unfoldable pub layers_kind : Context → Item → Option OffenceKind
layers_kind c layers =
    first_kind (
    when kinds.MissingPart (list_any (λ layer. is_none (name_of_layer c.bytes layer)) (layers_in layers))
    ∷ number_offence (layers_fault c.bytes layers)
    ∷ when kinds.DoubleLayer (has_double (layer_names_in c.bytes layers))
    ∷ when kinds.TooMany (nat_lt 32 (length (filter is_copper (layer_names_in c.bytes layers))))
    ∷ [])

-- ---- nets

-- the number that an item declares, where it is a net
abbrev pub net_as : List ℕ → Item → Thing → Option ℕ
net_as bytes item Net = declared_net bytes item
net_as bytes item _ = None

-- the number that an item of the board declares
abbrev pub net_number : List ℕ → Placed → Option ℕ
net_number bytes p = net_as bytes p.item (thing_of bytes p)

-- the numbers of the nets that are declared before
unfoldable pub nets_among : List ℕ → List Placed → List ℕ
nets_among bytes before = filter_map (net_number bytes) before

-- a number that may be absent is one of these
abbrev pub is_declared_among : List ℕ → Option ℕ → Bool
is_declared_among nets None = false
is_declared_among nets (Some n) = has_number nets n

-- another net of this number stands at a lesser place
abbrev pub is_double_net : Context → List Placed → Item → Bool
is_double_net c before net = is_declared_among (nets_among c.bytes before) (declared_net c.bytes net)

-- what may offend in a net, that is declared before or not, and one too many or not, in the order in which it is tried
abbrev pub net_kinds : Context → Item → Bool → Bool → List (Option OffenceKind)
net_kinds c net double many =
    when kinds.MissingPart (is_short 1 (Some net))
    ∷ number_offence (whole_fault_at c.bytes 0 (Some net))
    ∷ when kinds.DoubleNet double
    ∷ when kinds.TooMany many
    ∷ []

-- the first of it
unfoldable pub net_kind : Context → Item → Bool → Bool → Option OffenceKind
net_kind c net double many = first_kind (net_kinds c net double many)

-- ---- stamps

-- the stamp of an item that is such a thing: drawings, footprints and pads have none that counts
abbrev pub stamp_as : List ℕ → Item → Thing → Option Name
stamp_as bytes item Track = stamp_in bytes item
stamp_as bytes item Via = stamp_in bytes item
stamp_as bytes item Zone = stamp_in bytes item
stamp_as bytes item RuleArea = stamp_in bytes item
stamp_as bytes item _ = None

-- the stamp of a track, a via, or a zone of any kind
abbrev pub stamp_of_placed : List ℕ → Placed → Option Name
stamp_of_placed bytes p = stamp_as bytes p.item (thing_of bytes p)

-- the stamps of several items, in their order
unfoldable pub stamps_among : List ℕ → List Placed → List Name
stamps_among bytes before = filter_map (stamp_of_placed bytes) before

-- a stamp that may be absent is one of these
abbrev pub is_stamped_among : List Name → Option Name → Bool
is_stamped_among stamps None = false
is_stamped_among stamps (Some stamp) = is_among stamps stamp

-- another of these has the same stamp, at a lesser place
abbrev pub is_double_stamp : Context → List Placed → Item → Bool
is_double_stamp c before item = is_stamped_among (stamps_among c.bytes before) (stamp_in c.bytes item)

-- ---- tracks and vias

-- a track lacks a list, a layer or a number
abbrev pub track_lacks : List ℕ → Item → Bool
track_lacks bytes item =
    lacks bytes (codes "start" ∷ codes "end" ∷ codes "width" ∷ []) item
    || (nat_lt (length (layer_names bytes (codes "layer") item)) 1
    || (has_short bytes 2 (codes "start" ∷ codes "end" ∷ []) item || has_short bytes 1 (codes "width" ∷ codes "net" ∷ []) item))

-- what may offend in a track, with another of its stamp before or not, and one too many or not, in the order in which it is tried
abbrev pub track_kinds : Context → Item → Bool → Bool → List (Option OffenceKind)
track_kinds c item double many =
    when kinds.MissingPart (track_lacks c.bytes item)
    ∷ number_offence (track_fault c.bytes item)
    ∷ when kinds.BadSize (has_bad_size c.bytes (codes "width") item)
    ∷ when kinds.UnknownLayer (not (is_among c.copper (track_layer c.bytes item)))
    ∷ when kinds.UnknownNet (is_unknown_net c (net_of c.bytes item))
    ∷ when kinds.DoubleStamp double
    ∷ when kinds.TooMany many
    ∷ []

-- the first of it
unfoldable pub track_kind : Context → Item → Bool → Bool → Option OffenceKind
track_kind c item double many = first_kind (track_kinds c item double many)

-- a via lacks a list, a layer or a number
abbrev pub via_lacks : List ℕ → Item → Bool
via_lacks bytes item =
    lacks bytes (codes "at" ∷ codes "size" ∷ []) item
    || (nat_lt (length (layer_names bytes (codes "layers") item)) 2
    || (has_short bytes 2 (codes "at" ∷ []) item || has_short bytes 1 (codes "size" ∷ codes "net" ∷ []) item))

-- what may offend in a via, in the order in which it is tried
abbrev pub via_kinds : Context → Item → Bool → Bool → List (Option OffenceKind)
via_kinds c item double many =
    when kinds.MissingPart (via_lacks c.bytes item)
    ∷ number_offence (via_fault c.bytes item)
    ∷ when kinds.BadSize (has_bad_size c.bytes (codes "size") item)
    ∷ when kinds.UnknownLayer (not (is_among c.copper (via_layer c.bytes 0 item) && is_among c.copper (via_layer c.bytes 1 item)))
    ∷ when kinds.UnknownNet (is_unknown_net c (net_of c.bytes item))
    ∷ when kinds.DoubleStamp double
    ∷ when kinds.TooMany many
    ∷ []

-- the first of it
unfoldable pub via_kind : Context → Item → Bool → Bool → Option OffenceKind
via_kind c item double many = first_kind (via_kinds c item double many)

-- ---- footprints and pads

-- a `zone_connect` above 3
abbrev pub is_bad_connect : List ℕ → Item → Bool
is_bad_connect bytes item = nat_lt 3 (whole_in bytes (codes "zone_connect") item)

-- a footprint lacks its place, where a pad of it is read, or a number
abbrev pub footprint_lacks : Context → Item → Bool
footprint_lacks c item =
    (has_read_pad c item && not (has_list c.bytes (codes "at") item))
    || (has_short c.bytes 2 (codes "at" ∷ []) item
    || has_short c.bytes 1 (codes "clearance" ∷ codes "zone_connect" ∷ codes "thermal_gap" ∷ codes "thermal_width" ∷ []) item)

-- its angle is a multiple of 90 degrees
abbrev pub has_angle : List ℕ → Item → Bool
has_angle bytes item = not (is_none (turns_at bytes (list_of bytes (codes "at") item)))

-- what a footprint says for its pads is read where it stands; its place and angle are needed where a pad of it is read
unfoldable pub footprint_kind : Context → Item → Option OffenceKind
footprint_kind c item =
    first_kind (
    when kinds.MissingPart (footprint_lacks c item)
    ∷ number_offence (footprint_fault c.bytes item)
    ∷ when kinds.Angle (has_read_pad c item && not (has_angle c.bytes item))
    ∷ when kinds.BadSize (has_bad_length c.bytes (codes "clearance" ∷ codes "thermal_gap" ∷ codes "thermal_width" ∷ []) item || is_bad_connect c.bytes item)
    ∷ [])

-- the pad types that are read
abbrev pub pad_types : List (List ℕ)
pad_types = codes "thru_hole" ∷ codes "smd" ∷ codes "connect" ∷ codes "np_thru_hole" ∷ []

-- the pad shapes that are read
abbrev pub pad_shapes : List (List ℕ)
pad_shapes = codes "circle" ∷ codes "rect" ∷ codes "oval" ∷ codes "roundrect" ∷ []

-- a text that may be absent spells 0
abbrev pub is_zero_text : Option (List ℕ) → Bool
is_zero_text None = false
is_zero_text (Some text) = is_zero text

-- a `chamfer_ratio` other than 0
abbrev pub is_chamfered : List ℕ → Item → Bool
is_chamfered bytes pad = passes (λ list. not (is_zero_text (text_at bytes 0 list))) (list_of bytes (codes "chamfer_ratio") pad)

-- an `offset` in the drill with a number other than 0
abbrev pub is_off_hole : List ℕ → Item → Bool
is_off_hole bytes pad =
    passes (λ list. list_any (λ text. is_decimal text && not (is_zero text)) (texts_of bytes list)) (list_in bytes (codes "drill") (codes "offset") pad)

-- a pad lacks its place, its size or a number
abbrev pub pad_lacks : List ℕ → Item → Bool
pad_lacks bytes pad =
    lacks bytes (codes "at" ∷ codes "size" ∷ []) pad
    || (has_short bytes 2 (codes "at" ∷ codes "size" ∷ []) pad
    || (has_short bytes 1 (codes "net" ∷ codes "roundrect_rratio" ∷ codes "clearance" ∷ codes "zone_connect" ∷ codes "thermal_gap" ∷ []) pad
    || is_short 1 (bridge_list bytes pad)))

-- below 0, or above one half
abbrev pub is_bad_ratio : ℤ → Bool
is_bad_ratio q = int_lt q (pos 0) || int_lt (pos 5000000000) q

-- a hole's drill is negative, or above 100 mm
abbrev pub has_bad_drill : List ℕ → Item → Bool
has_bad_drill bytes pad =
    is_hole bytes pad && (is_no_length (drill_width bytes (drill_of bytes pad)) || is_no_length (drill_height bytes (drill_of bytes pad)))

-- a size, length or ratio of a pad is out of its range
abbrev pub pad_is_bad : List ℕ → Item → Bool
pad_is_bad bytes pad =
    is_no_size (length_at bytes 0 (list_of bytes (codes "size") pad))
    || (is_no_size (length_at bytes 1 (list_of bytes (codes "size") pad))
    || (has_bad_drill bytes pad
    || (is_bad_ratio (ratio_in bytes pad)
    || (has_bad_length bytes (codes "clearance" ∷ codes "thermal_gap" ∷ []) pad
    || (is_bad_length bytes (bridge_list bytes pad) || is_bad_connect bytes pad)))))

-- what may offend in a pad that is read, in a footprint, in the order in which it is tried
abbrev pub pad_kinds : Context → Item → Item → Bool → List (Option OffenceKind)
pad_kinds c footprint pad many =
    when kinds.PadType (not (list_any (λ name. is_type c.bytes name pad) pad_types))
    ∷ when kinds.PadShape (not (list_any (λ name. is_shape c.bytes name pad) pad_shapes) || is_chamfered c.bytes pad)
    ∷ when kinds.PadOffset (is_off_hole c.bytes pad)
    ∷ when kinds.MissingPart (pad_lacks c.bytes pad)
    ∷ number_offence (pad_fault c.bytes footprint pad)
    ∷ when kinds.Angle (not (has_angle c.bytes pad))
    ∷ when kinds.BadSize (pad_is_bad c.bytes pad)
    ∷ when kinds.UnknownLayer (has_unknown c.bytes c.copper (list_of c.bytes (codes "layers") pad))
    ∷ when kinds.UnknownNet (is_unknown_net c (net_of c.bytes pad))
    ∷ when kinds.TooMany many
    ∷ []

-- the first of it
unfoldable pub pad_kind : Context → Item → Item → Bool → Option OffenceKind
pad_kind c footprint pad many = first_kind (pad_kinds c footprint pad many)

-- ---- zones and rule areas

-- the zone is a teardrop
abbrev pub has_teardrop : List ℕ → Item → Bool
has_teardrop bytes zone =
    passes (λ attr. has_list bytes (codes "teardrop") attr || list_any (λ text. bytes_eq text (codes "teardrop")) (texts_of bytes attr)) (list_of bytes (codes "attr") zone)

-- the zone is filled with a hatch
abbrev pub is_hatched : List ℕ → Item → Bool
is_hatched bytes zone = passes (says_at bytes 0 (codes "hatch")) (list_in bytes (codes "fill") (codes "mode") zone)

-- the zone's corners are smoothed
abbrev pub is_smoothed : List ℕ → Item → Bool
is_smoothed bytes zone = passes (λ list. not (says_at bytes 0 (codes "none") list)) (list_in bytes (codes "fill") (codes "smoothing") zone)

-- the zone has several outlines
abbrev pub has_two_outlines : List ℕ → Item → Bool
has_two_outlines bytes zone = nat_lt 1 (length (headed bytes (codes "polygon") zone))

-- another point than `xy`
abbrev pub has_arc : List ℕ → Item → Bool
has_arc bytes zone = list_any (λ list. not (is_headed bytes (codes "xy") list)) (zones.corner_lists bytes zone)

-- the outline isn't there, or a point of it has fewer than two numbers
abbrev pub outline_lacks : List ℕ → Item → Bool
outline_lacks bytes zone =
    is_none (zones.points_list bytes zone) || list_any (λ list. is_short 2 (Some list)) (zones.corner_lists bytes zone)

-- the outline has more than 20,000 corners
abbrev pub is_long_outline : List ℕ → Item → Bool
is_long_outline bytes zone = nat_lt 20000 (length (zones.corner_lists bytes zone))

-- the first rule of outlines that the corners break, or none
abbrev pub IsOutlineResult : List Point → Option OutlineFault → Type 0
IsOutlineResult corners None = IsOutline corners
IsOutlineResult corners (Some fault) = outlines.HasOutlineFault corners fault

-- a rule of outlines that is broken
abbrev pub bad_outline : Option OutlineFault → Option OffenceKind
bad_outline fault = option_map kinds.Outline fault

-- what may offend in a rule area that is read: its layers and its outline alone, in the order in which it is tried
abbrev pub area_kinds : Context → Item → Option OutlineFault → Bool → Bool → List (Option OffenceKind)
area_kinds c zone outline double many =
    when kinds.ManyOutlines (has_two_outlines c.bytes zone)
    ∷ when kinds.PolygonArc (has_arc c.bytes zone)
    ∷ when kinds.MissingPart (outline_lacks c.bytes zone)
    ∷ number_offence (zones.corners_fault c.bytes zone)
    ∷ when kinds.UnknownLayer (has_unknown c.bytes c.copper (zones.layer_list c.bytes zone))
    ∷ when kinds.DoubleStamp double
    ∷ bad_outline outline
    ∷ when kinds.TooMany (many || is_long_outline c.bytes zone)
    ∷ []

-- the first of it
unfoldable pub area_kind : Context → Item → Option OutlineFault → Bool → Bool → Option OffenceKind
area_kind c zone outline double many = first_kind (area_kinds c zone outline double many)

-- an island mode other than 0, 1 and 2, where it can be read
abbrev pub is_other_mode : Option (List ℕ) → Bool
is_other_mode None = false
is_other_mode (Some text) = is_none (whole_fault text) && nat_lt 2 (whole_number text)

-- the zone removes its islands otherwise than always, never or below an area
abbrev pub has_other_mode : List ℕ → Item → Bool
has_other_mode bytes zone = passes (λ list. is_other_mode (text_at bytes 0 list)) (zones.mode_list bytes zone)

-- a zone lacks its outline or a number
abbrev pub zone_lacks : List ℕ → Item → Bool
zone_lacks bytes zone =
    outline_lacks bytes zone
    || (has_short bytes 1 (codes "net" ∷ codes "priority" ∷ codes "min_thickness" ∷ []) zone
    || list_any (is_short 1) (zones.clearance_list bytes zone ∷ zones.gap_list bytes zone ∷ zones.bridge_list bytes zone ∷ zones.mode_list bytes zone ∷ zones.island_area_list bytes zone ∷ []))

-- a length of a zone is out of its range
abbrev pub zone_is_bad : List ℕ → Item → Bool
zone_is_bad bytes zone =
    list_any is_no_length (zones.clearance_in bytes zone ∷ zones.thickness_in bytes zone ∷ zones.gap_in bytes zone ∷ zones.bridge_in bytes zone ∷ [])

-- what may offend in a zone that is read, in the order in which it is tried
abbrev pub zone_kinds : Context → Item → Option OutlineFault → Bool → Bool → List (Option OffenceKind)
zone_kinds c zone outline double many =
    when kinds.Teardrop (has_teardrop c.bytes zone)
    ∷ when kinds.HatchFill (is_hatched c.bytes zone)
    ∷ when kinds.Smoothing (is_smoothed c.bytes zone)
    ∷ when kinds.IslandArea (has_other_mode c.bytes zone)
    ∷ when kinds.ManyOutlines (has_two_outlines c.bytes zone)
    ∷ when kinds.PolygonArc (has_arc c.bytes zone)
    ∷ when kinds.MissingPart (zone_lacks c.bytes zone)
    ∷ number_offence (zones.zone_fault c.bytes zone)
    ∷ when kinds.BadSize (zone_is_bad c.bytes zone)
    ∷ when kinds.Thin (nat_lt (size_of (zones.thickness_in c.bytes zone)) 1000)
    ∷ when kinds.UnknownLayer (has_unknown c.bytes c.copper (zones.layer_list c.bytes zone))
    ∷ when kinds.UnknownNet (is_unknown_net c (net_of c.bytes zone))
    ∷ when kinds.DoubleStamp double
    ∷ bad_outline outline
    ∷ when kinds.TooMany (many || is_long_outline c.bytes zone)
    ∷ []

-- the first of it
unfoldable pub zone_kind : Context → Item → Option OutlineFault → Bool → Bool → Option OffenceKind
zone_kind c zone outline double many = first_kind (zone_kinds c zone outline double many)

-- of a zone or rule area that isn't read the stamp counts alone
abbrev pub stamp_kind : Bool → Option OffenceKind
stamp_kind double = when kinds.DoubleStamp double

-- ---- drawings

-- what may offend in a drawing, in the order in which it is tried
abbrev pub drawing_kinds : Context → Item → Bool → List (Option OffenceKind)
drawing_kinds c item many =
    when kinds.CopperGraphic (is_on_copper c.bytes item)
    ∷ when kinds.EdgeCurve (is_edge c.bytes item && is_curved c.bytes item)
    ∷ when kinds.MissingPart (is_edge c.bytes item && lacks_points c.bytes item)
    ∷ number_offence (cond (is_edge c.bytes item) (edge_fault c.bytes item) None)
    ∷ when kinds.TooMany many
    ∷ []

-- the first of it
unfoldable pub drawing_kind : Context → Item → Bool → Option OffenceKind
drawing_kind c item many = first_kind (drawing_kinds c item many)

-- the first offence of a drawing in a footprint
unfoldable pub footprint_drawing_kind : Context → Item → Option OffenceKind
footprint_drawing_kind c item =
    first_kind (
    when kinds.CopperGraphic (is_on_copper c.bytes item)
    ∷ when kinds.FootprintEdge (head_begins c.bytes (codes "fp_") item && is_drawn_on is_edge_name c.bytes item)
    ∷ [])

-- ---- all of them

-- the thing is the list of layers
abbrev pub is_layers : Thing → Bool
is_layers Layers = true
is_layers _ = false

-- of several `layers` the first is read
abbrev pub has_layers : Context → List Placed → Bool
has_layers c before = list_any (λ p. is_layers (thing_of c.bytes p)) before

-- how an item that is such a thing offends after those before it
abbrev pub kind_as : Context → List Placed → Placed → Option OutlineFault → Thing → Option OffenceKind
kind_as c before p outline Board = board_kind c p.item
kind_as c before p outline Layers = cond (has_layers c before) None (layers_kind c p.item)
kind_as c before p outline Net = net_kind c p.item (is_double_net c before p.item) (is_one_too_many c before p)
kind_as c before p outline Track = track_kind c p.item (is_double_stamp c before p.item) (is_one_too_many c before p)
kind_as c before p outline CurvedTrack = Some kinds.CurvedTrack
kind_as c before p outline Via = via_kind c p.item (is_double_stamp c before p.item) (is_one_too_many c before p)
kind_as c before p outline Footprint = footprint_kind c p.item
kind_as c before p outline (Pad footprint) = cond (is_read_pad c p.item) (pad_kind c footprint p.item (is_one_too_many c before p)) None
kind_as c before p outline Zone = cond (zones.is_read_zone c p.item) (zone_kind c p.item outline (is_double_stamp c before p.item) (is_one_too_many c before p)) (stamp_kind (is_double_stamp c before p.item))
kind_as c before p outline RuleArea = cond (zones.is_read_area c p.item) (area_kind c p.item outline (is_double_stamp c before p.item) (is_one_too_many c before p)) (stamp_kind (is_double_stamp c before p.item))
kind_as c before p outline Drawing = drawing_kind c p.item (is_one_too_many c before p)
kind_as c before p outline FootprintDrawing = footprint_drawing_kind c p.item
kind_as c before p outline FootprintZone = Some kinds.FootprintZone
kind_as c before p outline Other = None

-- how the item offends after those before it, where its outline is refused so; none where it doesn't
unfoldable pub kind_with : Context → List Placed → Placed → Option OutlineFault → Option OffenceKind
kind_with c before p outline = kind_as c before p outline (thing_of c.bytes p)

-- a zone or rule area that is read has an outline, which is tried
abbrev pub has_outline : Context → Item → Thing → Bool
has_outline c item Zone = zones.is_read_zone c item
has_outline c item RuleArea = zones.is_read_area c item
has_outline c item _ = false

-- how the item offends after those before it, or that it doesn't
pub record IsKindOf (c : Context) (before : List Placed) (p : Placed) (kind : Option OffenceKind) : Type 0 where
  pub outline : Option OutlineFault
  pub is_outline : has_outline c p.item (thing_of c.bytes p) ≡ true → IsOutlineResult (zones.corners_read c.bytes p.item) outline
  pub is_kind : kind ≡ kind_with c before p outline
