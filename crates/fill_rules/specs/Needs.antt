-- What copper of a zone keeps away from, and how far: other nets' copper, bare holes, the board's edge, pads that are not
-- to be joined. Lengths of the board are nanometres; octagons and needs are units.
use Rattle.std.specs.Prelude.{ℕ, ◌+◌, ◌/◌, max, Bool, true, false, not, cond, ◌&&◌, ◌||◌, ◌==◌, List, [], ◌++◌, map, flat_map, unwrap_or}
use Rattle.plane.specs.Plane.{Bounds, box_of}
use Rattle.copper_shape.specs.Shapes.{Copper}
use Rattle.copper_shape.specs.declared.edge.Edge.{Edge}
use Rattle.touching.specs.Core.{area, line}
use Rattle.hulls.specs.Hulls.{edge_hulls_of, in_halves}
use Rattle.board_language.specs.declared.Join.{Join}
use Rattle.board_language.specs.declared.Join.TheVariants.{Thermal, Solid, Apart, PlatedThermal}
use Rattle.board_language.specs.declared.PadKind.{PadKind}
use Rattle.board_language.specs.declared.PadKind.TheVariants.{Plated, Surface, Hole}
use Rattle.board_language.specs.declared.board.Track.{Track}
use Rattle.board_language.specs.declared.board.Via.{Via}
use Rattle.board_language.specs.declared.board.Pad.{Pad}
use Rattle.board_language.specs.Board.{Board}
use Rattle.board_language.specs.Copper.{has_layer, hulls_round, pad_hulls}
use Rattle.fill_rules.specs.Tasks.{Settings}

-- ---- foreign

-- copper of the one net is foreign to copper of the other; copper without a net is foreign to all
abbrev pub is_foreign : ℕ → ℕ → Bool
is_foreign m n = not (m == n) || (m == 0)

-- ---- needs

-- nanometres as a distance in units, rounded up
abbrev pub units : ℕ → ℕ
units n = (n + 1) / 2

-- between a zone and an item with a clearance of its own: the greatest of the zone's, the item's and the board's floor
abbrev pub item_need : Board → Settings → ℕ → ℕ
item_need b z own = units (max (max z.clearance own) b.rules.floor)

-- between two zones
abbrev pub zone_need : Board → Settings → Settings → ℕ
zone_need b y z = units (max (max y.clearance z.clearance) b.rules.floor)

-- to the board's edge
abbrev pub edge_need : Board → ℕ
edge_need b = units b.rules.edge

-- ---- copper, in halves

-- a track is all that is at most half its width away from its middle line
abbrev pub track_copper : Track → Copper
track_copper t = record { core = line (in_halves t.from) (in_halves t.to); radius = t.width }

-- a via is a disc
abbrev pub via_copper : Via → Copper
via_copper v = record { core = area (box_of (in_halves v.at).x (in_halves v.at).x (in_halves v.at).y (in_halves v.at).y); radius = v.size }

-- ---- pads

-- what a pad is to a zone, on a layer where it has copper or is a hole
pub data Role : Type 0 where
  -- of another net, or a bare hole
  Foreign : Role
  -- of the zone's net: joined by four spokes across a gap
  Relieved : Role
  -- joined by copper all round
  Joined : Role
  -- not joined
  Unjoined : Role

-- what a join makes of a pad of the zone's net; joins that are thermal for plated pads are solid for others
abbrev pub role_by : PadKind → Join → Role
role_by kind Thermal = Relieved
role_by kind Solid = Joined
role_by kind Apart = Unjoined
role_by Plated PlatedThermal = Relieved
role_by Surface PlatedThermal = Joined
role_by Hole PlatedThermal = Foreign

-- the pad says how it is joined; where it doesn't, the zone does
abbrev pub role_of_net : Settings → Pad → Role
role_of_net z p = cond (is_foreign z.net p.net) Foreign (role_by p.kind (unwrap_or p.join z.join))

-- a bare hole is foreign to every zone
abbrev pub role_of_kind : PadKind → Role → Role
role_of_kind Hole r = Foreign
role_of_kind Plated r = r
role_of_kind Surface r = r

-- what the pad is to the zone
abbrev pub role : Settings → Pad → Role
role z p = role_of_kind p.kind (role_of_net z p)

-- a pad stands on the layers where it has copper, a bare hole on every layer
abbrev pub stands : PadKind → Bool → Bool
stands Hole copper = true
stands Plated copper = copper
stands Surface copper = copper

-- whether the pad counts on the layer: it has copper there, or is a bare hole
abbrev pub is_on : ℕ → Pad → Bool
is_on l p = stands p.kind (has_layer p.layers l)

-- ---- obstacles

-- an octagon, and how far away copper stays from it
pub record Need : Type 0 where
  pub oct : Bounds
  pub need : ℕ

-- these octagons, each to be kept away from at the need
abbrev pub at_need : ℕ → List Bounds → List Need
at_need n os = map (λ (o : Bounds). record { oct = o; need = n }) os

-- the list where the test holds, and nothing where it doesn't
abbrev pub keep_when : {A : Type 0} → Bool → List A → List A
keep_when b xs = cond b xs []

-- a foreign track on the layer is kept away from
abbrev pub track_needs : Board → Settings → ℕ → Track → List Need
track_needs b z l t = keep_when ((t.layer == l) && is_foreign z.net t.net) (at_need (item_need b z 0) (hulls_round (track_copper t)))

-- and a foreign via that has copper on the layer
abbrev pub via_needs : Board → Settings → ℕ → Via → List Need
via_needs b z l v = keep_when (has_layer v.layers l && is_foreign z.net v.net) (at_need (item_need b z 0) (hulls_round (via_copper v)))

-- whether the zone keeps away from a pad of this role by the clearance
abbrev pub is_barred : Role → Bool
is_barred Foreign = true
is_barred Unjoined = true
is_barred Relieved = false
is_barred Joined = false

-- foreign pads, holes, and pads that are not to be joined
abbrev pub pad_needs : Board → Settings → ℕ → Pad → List Need
pad_needs b z l p = keep_when (is_on l p && is_barred (role z p)) (at_need (item_need b z p.clearance) (pad_hulls p))

-- each piece of the board's edge is kept away from, on every layer
abbrev pub edge_needs : Board → Edge → List Need
edge_needs b e = at_need (edge_need b) (edge_hulls_of e.from e.to e.bow)

-- what stands on the board whatever the fills are
unfoldable pub item_needs : Board → Settings → ℕ → List Need
item_needs b z l =
    flat_map (track_needs b z l) b.tracks ++ (flat_map (via_needs b z l) b.vias
    ++ (flat_map (pad_needs b z l) b.pads ++ flat_map (edge_needs b) b.edges))
