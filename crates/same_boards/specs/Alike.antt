-- Boards that are the same but for places in the file.
use Rattle.std.specs.Prelude.{◌≡◌, [], map, None}
use Rattle.board_language.specs.declared.board.Zone.{Zone}
use Rattle.board_language.specs.Board.{Board}
use Rattle.fill_rules.specs.Dirty.{unlined}
use Rattle.fill_rules.specs.Edits.{unplaced, unplaced_via}

-- a zone, wherever it and its lists stand in the file
abbrev pub unplaced_zone : Zone → Zone
unplaced_zone z =
    record {
      outline = z.outline;
      layers = z.layers;
      net = z.net;
      priority = z.priority;
      join = z.join;
      clearance = z.clearance;
      thickness = z.thickness;
      gap = z.gap;
      bridge = z.bridge;
      islands = z.islands;
      spans = record { priority = None; connect = None; clearance = None; tail = 0; fills = [] };
      span = record { from = 0; to = 0 };
      line = 0;
    }

-- the boards are the same but for places in the file
pub record AreAlike (b d : Board) : Type 0 where
  pub layers : b.layers ≡ d.layers
  pub nets : b.nets ≡ d.nets
  pub tracks : map unplaced b.tracks ≡ map unplaced d.tracks
  pub vias : map unplaced_via b.vias ≡ map unplaced_via d.vias
  pub pads : map unlined b.pads ≡ map unlined d.pads
  pub zones : map unplaced_zone b.zones ≡ map unplaced_zone d.zones
  pub areas : b.areas ≡ d.areas
  pub edges : b.edges ≡ d.edges
  pub rules : b.rules ≡ d.rules
