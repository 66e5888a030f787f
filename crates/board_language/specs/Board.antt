-- A board as it is read: its layers, nets and copper, its zones and edges.
use Rattle.std.specs.Prelude.{ℕ, List}
use Rattle.copper_shape.specs.declared.edge.Edge.{Edge}
use Rattle.board_language.specs.declared.board.Track.{Track}
use Rattle.board_language.specs.declared.board.Via.{Via}
use Rattle.board_language.specs.declared.board.Pad.{Pad}
use Rattle.board_language.specs.declared.board.Zone.{Zone}
use Rattle.board_language.specs.declared.board.Area.{Area}
use Rattle.board_language.specs.declared.board.Rules.{Rules}

-- a layer's number is its place among `layers`, the copper layers in the board's order
pub record Board : Type 0 where
  pub layers : List (List ℕ)
  pub nets : List ℕ
  pub tracks : List Track
  pub vias : List Via
  pub pads : List Pad
  pub zones : List Zone
  pub areas : List Area
  pub edges : List Edge
  pub rules : Rules
