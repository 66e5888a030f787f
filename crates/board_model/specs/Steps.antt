-- One item more: how it offends after what was read before it, and what is read after it.
use Rattle.std.specs.Prelude.{◌≡◌, ℕ, ◌+◌, Bool, true, ◌||◌, nat_le, cond, List, [], ◌∷◌, ◌++◌, length, Option, None, Some}
use Rattle.sexpr_text.specs.Items.{Item}
use Rattle.outline_slab.specs.declared.error.OutlineFault.{OutlineFault}
use Rattle.board_language.specs.declared.offence.OffenceKind.{OffenceKind}
use Rattle.board_language.specs.declared.offence.OffenceKind.TheVariants as kinds
use Rattle.board_text.specs.Layers.{Name}
use Rattle.board_text.specs.Things.{Thing, Board, Layers, Net, Track, CurvedTrack, Via, Footprint, RuleArea, Zone, Drawing, Pad, FootprintDrawing, FootprintZone, Other}
use Rattle.board_text.specs.Items.{Context, declared_net, stamp_in}
use Rattle.board_language.specs.Counts.{is_first_over}
use Rattle.board_language.specs.Tracks.{track_of, via_of}
use Rattle.board_language.specs.Pads.{is_read_pad, pad_of}
use Rattle.board_language.specs.Zones.{is_read_zone, is_read_area, zone_of, area_of, corners_read}
use Rattle.board_language.specs.Edges.{edges_read}
use Rattle.board_language.specs.Offences.{board_kind, layers_kind, net_kind, track_kind, via_kind, footprint_kind, pad_kind, zone_kind, area_kind, stamp_kind, drawing_kind, footprint_drawing_kind, is_declared_among, is_stamped_among, has_outline, IsOutlineResult}
use Rattle.board_text.specs.declared.stamped.Stamped.{Stamped}
use Rattle.board_text.specs.declared.stamped.Stamped.TheVariants as stamped
use Rattle.board_items.specs.Stamps.{Table, stamps_of, with_stamp}
use Rattle.board_model.specs.State.{State}

-- ---- how the item offends

-- with it there are too many things, or too many outlines, for the first time
abbrev pub is_over : State → ℕ → ℕ → Bool
is_over s things outlines = is_first_over 200000 s.things things || is_first_over 2000 s.outlines outlines

abbrev pub is_double : Context → State → Item → Bool
is_double c s item = is_stamped_among (stamps_of s.stamps) (stamp_in c.bytes item)

abbrev pub kind_by : Context → State → Item → Option OutlineFault → Thing → Option OffenceKind
kind_by c s item outline Board = board_kind c item
kind_by c s item outline Layers = cond s.layers None (layers_kind c item)
kind_by c s item outline Net = net_kind c item (is_declared_among s.nets (declared_net c.bytes item)) (is_over s 1 0)
kind_by c s item outline Track = track_kind c item (is_double c s item) (is_over s 1 0)
kind_by c s item outline CurvedTrack = Some kinds.CurvedTrack
kind_by c s item outline Via = via_kind c item (is_double c s item) (is_over s 1 0)
kind_by c s item outline Footprint = footprint_kind c item
kind_by c s item outline (Pad footprint) = cond (is_read_pad c item) (pad_kind c footprint item (is_over s 1 0)) None
kind_by c s item outline Zone = cond (is_read_zone c item) (zone_kind c item outline (is_double c s item) (is_over s 1 1)) (stamp_kind (is_double c s item))
kind_by c s item outline RuleArea = cond (is_read_area c item) (area_kind c item outline (is_double c s item) (is_over s 0 1)) (stamp_kind (is_double c s item))
kind_by c s item outline Drawing = drawing_kind c item (is_over s (length (edges_read c.bytes item)) 0)
kind_by c s item outline FootprintDrawing = footprint_drawing_kind c item
kind_by c s item outline FootprintZone = Some kinds.FootprintZone
kind_by c s item outline Other = None

-- how an item that is such a thing offends after what was read before it, or that it doesn't
pub record IsKindBy (c : Context) (s : State) (item : Item) (thing : Thing) (kind : Option OffenceKind) : Type 0 where
  pub outline : Option OutlineFault
  pub is_outline : has_outline c item thing ≡ true → IsOutlineResult (corners_read c.bytes item) outline
  pub is_kind : kind ≡ kind_by c s item outline thing

-- ---- what is read after it

-- sets of layers are read of at most 32 copper layers; a board with more of them is refused
abbrev pub has_few : Context → Bool
has_few c = nat_le (length c.copper) 32

abbrev pub put : {X : Type 0} → List X → Option X → List X
put xs None = xs
put xs (Some x) = xs ++ x ∷ []

abbrev pub kept : {X : Type 0} → Context → X → Option X
kept c x = cond (has_few c) (Some x) None

-- a thing's stamp counts where no thing before it has the same
abbrev pub put_stamp : Table → Option Name → Stamped → Table
put_stamp table None thing = table
put_stamp table (Some name) thing = with_stamp table name thing

abbrev pub stamps_with : Context → State → Item → Stamped → Table
stamps_with c s item thing = put_stamp s.stamps (stamp_in c.bytes item) thing

abbrev pub after_zone : Context → State → Item → State
after_zone c s item =
    record s { things = s.things + 1; outlines = s.outlines + 1; stamps = stamps_with c s item (stamped.Zone (length s.zones)); zones = put s.zones (kept c (zone_of c item)) }

abbrev pub after_area : Context → State → Item → State
after_area c s item = record s { outlines = s.outlines + 1; stamps = stamps_with c s item stamped.Other; areas = put s.areas (kept c (area_of c item)) }

abbrev pub after_as : Context → State → Item → Thing → State
after_as c s item Layers = record s { layers = true }
after_as c s item Net = record s { things = s.things + 1; nets = put s.nets (declared_net c.bytes item) }
after_as c s item Track =
    record s { things = s.things + 1; stamps = stamps_with c s item (stamped.Track (length s.tracks)); tracks = put s.tracks (kept c (track_of c item)) }
after_as c s item Via =
    record s { things = s.things + 1; stamps = stamps_with c s item (stamped.Via (length s.vias)); vias = put s.vias (kept c (via_of c item)) }
after_as c s item (Pad footprint) =
    cond (is_read_pad c item) (record s { things = s.things + 1; pads = put s.pads (kept c (pad_of c footprint item)) }) s
after_as c s item Zone = cond (is_read_zone c item) (after_zone c s item) (record s { stamps = stamps_with c s item stamped.Other })
after_as c s item RuleArea = cond (is_read_area c item) (after_area c s item) (record s { stamps = stamps_with c s item stamped.Other })
after_as c s item Drawing = record s { things = s.things + length (edges_read c.bytes item); edges = s.edges ++ edges_read c.bytes item }
after_as c s item _ = s
