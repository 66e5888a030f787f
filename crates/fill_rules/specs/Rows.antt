-- Rows worked by hand: what the rules give for small boards, in numbers.
use Rattle.std.specs.Prelude.{◌≡◌, ℕ, pos, List, [], ◌∷◌, None}
use Rattle.plane.specs.Plane.{box_of}
use Rattle.grid_sets.specs.Points.{IsCount}
use Rattle.grid_num.specs.declared.Point.{Point}
use Rattle.touching.specs.Core.{area}
use Rattle.board_language.specs.declared.Join.TheVariants.{Thermal}
use Rattle.board_language.specs.declared.IslandMode.TheVariants.{Remove, Keep, Below}
use Rattle.board_language.specs.declared.PadKind.TheVariants.{Surface}
use Rattle.board_language.specs.declared.board.Pad.{Pad}
use Rattle.board_language.specs.declared.board.Zone.{Zone}
use Rattle.board_language.specs.Board.{Board}
use Rattle.fill_rules.specs.Tasks.{settings_of, ranked}
use Rattle.fill_rules.specs.Needs.{item_need, edge_need}
use Rattle.fill_rules.specs.Reliefs.{brush_radius, pad_spokes}
use Rattle.fill_rules.specs.Fill.{IsIslandPoint, IsSpared, fill_of}

-- a zone with the outline, on the layers and of the net: clearance 0.2 mm, thickness 0.25 mm, gap and bridges 0.5 mm
abbrev pub worked_zone : List Point → ℕ → ℕ → ℕ → Zone
worked_zone outline layers net priority =
    record {
      outline = outline;
      layers = layers;
      net = net;
      priority = priority;
      join = Thermal;
      clearance = 200000;
      thickness = 250000;
      gap = 500000;
      bridge = 500000;
      islands = Remove;
      spans = record { priority = None; connect = None; clearance = None; tail = 0; fills = [] };
      span = record { from = 0; to = 0 };
      line = 0;
    }

-- one on the first layer, wherever it lies
abbrev pub zone_on : ℕ → ℕ → Zone
zone_on net priority = worked_zone [] 1 net priority

-- a square pad of 1 mm at (5, 5), of net 1, with a clearance of 0.3 mm
abbrev pub square_pad : Pad
square_pad =
    record {
      shape = record { core = area (box_of (pos 9000000) (pos 11000000) (pos 9000000) (pos 11000000)); radius = 0 };
      at = record { x = pos 5000000; y = pos 5000000 };
      layers = 1;
      net = 1;
      kind = Surface;
      clearance = 300000;
      join = None;
      gap = None;
      bridge = None;
      line = 0;
    }

-- three zones of priorities 1, 1 and 2, a floor of 0.1 mm, an edge clearance of 0.500001 mm
abbrev pub three_zones : Board
three_zones =
    record {
      layers = [] ∷ [];
      nets = 0 ∷ 1 ∷ 2 ∷ 3 ∷ [];
      tracks = [];
      vias = [];
      pads = square_pad ∷ [];
      zones = zone_on 1 1 ∷ zone_on 2 1 ∷ zone_on 3 2 ∷ [];
      areas = [];
      edges = [];
      rules = record { floor = 100000; edge = 500001 };
    }

-- the pad's spokes go from 0.125 mm behind its centre to 0.625 mm beyond its edge, 0.25 mm to either side, in units
abbrev pub SpokesRow : Type 0
SpokesRow =
    pad_spokes (settings_of (zone_on 1 1)) square_pad
    ≡ box_of (pos 2437500) (pos 3062500) (pos 2375000) (pos 2625000)
    ∷ box_of (pos 2375000) (pos 2625000) (pos 2437500) (pos 3062500)
    ∷ box_of (pos 1937500) (pos 2562500) (pos 2375000) (pos 2625000)
    ∷ box_of (pos 2375000) (pos 2625000) (pos 1937500) (pos 2562500)
    ∷ []

-- the zone of priority 2 is filled first, then the other two as they stand in the file
abbrev pub RankRow : Type 0
RankRow = ranked three_zones ≡ record { zone = 2; layer = 0 } ∷ record { zone = 0; layer = 0 } ∷ record { zone = 1; layer = 0 } ∷ []

-- the pad's clearance is greater than the zone's, the zone's greater than the floor, and an odd length is rounded up
abbrev pub PadNeedRow : Type 0
PadNeedRow = item_need three_zones (settings_of (zone_on 2 1)) square_pad.clearance ≡ 150000

-- a track has no clearance of its own, so the zone's counts
abbrev pub TrackNeedRow : Type 0
TrackNeedRow = item_need three_zones (settings_of (zone_on 2 1)) 0 ≡ 100000

-- 0.500001 mm are 250,000.5 units, rounded up
abbrev pub EdgeNeedRow : Type 0
EdgeNeedRow = edge_need three_zones ≡ 250001

-- the brush reaches 0.125 mm to each side
abbrev pub BrushRow : Type 0
BrushRow = brush_radius (settings_of (zone_on 1 1)) ≡ 62500

-- a component of 11,684,826,500,000 grid points, 4 square nanometres each, has an area of 46.739306 square millimetres:
-- it stays where just this area is wanted, and goes where a millionth more is
abbrev pub IslandRow : Type 0
IslandRow =
    (b : Board) (i : ℕ) (c : Point) → IsCount (IsIslandPoint b (fill_of b) i c) 11684826500000
    → IsSpared b (fill_of b) i c (Below 46739306) × (IsSpared b (fill_of b) i c (Below 46739307) → ⊥)

-- and one of a grid point less goes
abbrev pub LessIslandRow : Type 0
LessIslandRow =
    (b : Board) (i : ℕ) (c : Point) → IsCount (IsIslandPoint b (fill_of b) i c) 11684826499999
    → IsSpared b (fill_of b) i c (Below 46739306) → ⊥

-- without an area each component stays, or none does but those that are anchored
abbrev pub ModeRow : Type 0
ModeRow = (b : Board) (i : ℕ) (c : Point) → IsSpared b (fill_of b) i c Keep × (IsSpared b (fill_of b) i c Remove → ⊥)
