-- What every accepted board has: how many things there are of a kind, how thick and wide they are, how far away they lie,
-- and that outlines keep their rules. Lengths are nanometres; outlines are in units of 2 nm, and shapes of pads in halves of
-- a nanometre.
use Rattle.std.specs.Prelude.{◌≡◌, ℕ, ◌+◌, ◌<◌, ◌≤◌, ◌^◌, true, List, [], ◌∷◌, map, length, unwrap_or}
use Rattle.std.specs.List.{All}
use Rattle.plane.specs.Plane.{Bounds, Within}
use Rattle.grid_num.specs.declared.Point.{Point}
use Rattle.plane.specs.Units.{finer}
use Rattle.cores.specs.Room.{IsInRoom, IsCoreInRoom}
use Rattle.hulls.specs.Cells.{floor_of}
use Rattle.copper_shape.specs.Shapes.{Copper}
use Rattle.copper_shape.specs.declared.edge.Edge.{Edge}
use Rattle.outline_slab.specs.Rules.{IsOutline, IsKeptOutline}
use Rattle.board_language.specs.declared.board.Track.{Track}
use Rattle.board_language.specs.declared.board.Via.{Via}
use Rattle.board_language.specs.declared.board.Pad.{Pad}
use Rattle.board_language.specs.declared.IslandMode.{IslandMode}
use Rattle.board_language.specs.declared.IslandMode.TheVariants.{Remove, Keep, Below}
use Rattle.board_language.specs.declared.board.Zone.{Zone}
use Rattle.board_language.specs.declared.board.Area.{Area}
use Rattle.board_language.specs.Board.{Board}
use Rattle.board_language.specs.Copper.{has_layer, pad_hulls, HasPad}
use Rattle.board_language.specs.Clearances.{AreSoundRules}

-- a place lies within 500 mm of the origin, in x and in y
abbrev pub IsPlaceInReach : Point → Type 0
IsPlaceInReach p = IsInRoom 500000000 p

-- a width or a size, from 1 nm to 100 mm
pub record IsCopperSize (n : ℕ) : Type 0 where
  pub least : 1 ≤ n
  pub most : n ≤ 100000000

-- ---- copper

-- a track of a board with so many layers is on one of them
pub record IsSoundTrack (layers : ℕ) (t : Track) : Type 0 where
  pub from : IsPlaceInReach t.from
  pub to : IsPlaceInReach t.to
  pub width : IsCopperSize t.width
  pub layer : t.layer < layers

-- a via is on none but them
pub record IsSoundVia (layers : ℕ) (v : Via) : Type 0 where
  pub at : IsPlaceInReach v.at
  pub size : IsCopperSize v.size
  pub among : v.layers < 2 ^ layers

-- copper with a core within 550 mm of the origin and a radius of at most 50 mm
pub record IsSmallShape (c : Copper) : Type 0 where
  pub within : IsCoreInRoom 1100000000 c.core
  pub radius : c.radius ≤ 100000000

-- one octagon stands for the pad's copper, and holds the pad's centre, rounded down to units
pub record HasOneHull (p : Pad) : Type 0 where
  pub hull : Bounds
  pub only : pad_hulls p ≡ hull ∷ []
  pub centre : Within hull (floor_of 2 p.at.x) (floor_of 2 p.at.y)

-- A pad's copper has the core of a pad, with the pad's centre in it, and so one hull. What the pad says of lengths, or its
-- footprint says for it, is at most 100 mm. It is on no layer but those of the board.
pub record IsSoundPad (layers : ℕ) (p : Pad) : Type 0 where
  pub at : IsPlaceInReach p.at
  pub pad : HasPad p
  pub hull : HasOneHull p
  pub shape : IsSmallShape p.shape
  pub clearance : p.clearance ≤ 100000000
  pub gap : unwrap_or p.gap 0 ≤ 100000000
  pub bridge : unwrap_or p.bridge 0 ≤ 100000000
  pub among : p.layers < 2 ^ layers

-- ---- outlines

-- The corners, in nanometres, break no rule of outlines, and there are at most 20,000 of them. In units, too, no edge meets
-- another but at the corner between them; each corner lies within 500 mm.
pub record IsSoundOutline (corners : List Point) : Type 0 where
  pub rules : IsOutline (map (finer 2) corners)
  pub kept : IsKeptOutline corners
  pub few : length corners ≤ 20000

-- an area below which islands go is at most 1,000,000 square millimetres
abbrev pub IsIslandModeInRange : IslandMode → Type 0
IsIslandModeInRange Remove = Unit {0}
IsIslandModeInRange Keep = Unit {0}
IsIslandModeInRange (Below area) = area ≤ 1000000000000

-- A zone of a board with so many layers: it is on one of them at least, and on no others. Its copper is from 0.001 mm to
-- 100 mm thick, and its clearance, gap and bridge are at most 100 mm.
pub record IsSoundZone (layers : ℕ) (z : Zone) : Type 0 where
  pub thick : 1000 ≤ z.thickness
  pub thin : z.thickness ≤ 100000000
  pub clearance : z.clearance ≤ 100000000
  pub gap : z.gap ≤ 100000000
  pub bridge : z.bridge ≤ 100000000
  pub islands : IsIslandModeInRange z.islands
  pub layered : (l : ℕ) × (l < layers) × (has_layer z.layers l ≡ true)
  pub among : z.layers < 2 ^ layers
  pub outline : IsSoundOutline z.outline

-- a rule area of a board with so many layers: it is on none but them
pub record IsSoundArea (layers : ℕ) (a : Area) : Type 0 where
  pub among : a.layers < 2 ^ layers
  pub outline : IsSoundOutline a.outline

-- ---- the board

pub record IsSoundBoardEdge (e : Edge) : Type 0 where
  pub from : IsPlaceInReach e.from
  pub to : IsPlaceInReach e.to

-- at most 32 copper layers, 2,000 zones and rule areas together, and 200,000 things, nets counted in; each of them as it is to
-- be, and so the clearances of the whole board
pub record IsSoundBoard (b : Board) : Type 0 where
  pub layers : length b.layers ≤ 32
  pub outlines : length b.zones + length b.areas ≤ 2000
  pub things : length b.nets + length b.tracks + length b.vias + length b.pads + length b.zones + length b.edges ≤ 200000
  pub zones : All (IsSoundZone (length b.layers)) b.zones
  pub areas : All (IsSoundArea (length b.layers)) b.areas
  pub tracks : All (IsSoundTrack (length b.layers)) b.tracks
  pub vias : All (IsSoundVia (length b.layers)) b.vias
  pub pads : All (IsSoundPad (length b.layers)) b.pads
  pub edges : All IsSoundBoardEdge b.edges
  pub rules : AreSoundRules b.rules
