-- What has been read of a board so far, as far as the items that follow need it.
use Rattle.std.specs.Prelude.{ℕ, Bool, false, List, []}
use Rattle.copper_shape.specs.declared.edge.Edge.{Edge}
use Rattle.board_language.specs.declared.board.Track.{Track}
use Rattle.board_language.specs.declared.board.Via.{Via}
use Rattle.board_language.specs.declared.board.Pad.{Pad}
use Rattle.board_language.specs.declared.board.Zone.{Zone}
use Rattle.board_language.specs.declared.board.Area.{Area}
use Rattle.board_items.specs.Stamps.{Table}

-- `layers` says whether a list of layers stood before; things and outlines are counted against the most that a board may have
pub record State : Type 0 where
  pub layers : Bool
  pub things : ℕ
  pub outlines : ℕ
  pub nets : List ℕ
  pub stamps : Table
  pub tracks : List Track
  pub vias : List Via
  pub pads : List Pad
  pub zones : List Zone
  pub areas : List Area
  pub edges : List Edge

-- before the first item
abbrev pub nothing_read_yet : State
nothing_read_yet = record {
  layers = false;
  things = 0;
  outlines = 0;
  nets = [];
  stamps = [];
  tracks = [];
  vias = [];
  pads = [];
  zones = [];
  areas = [];
  edges = [];
}
