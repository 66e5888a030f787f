-- What is read of tracks and vias.
--
--     (segment (start 0 0) (end 5 0) (width 0.25) (layer "F.Cu") (net 1) (tstamp ..))
--     (via (at 5 0) (size 0.6) (drill 0.3) (layers "F.Cu" "B.Cu") (net 1) (tstamp ..))
use Rattle.std.specs.Prelude.{ℕ, List, [], ◌∷◌, codes, Option}
use Rattle.grid_num.specs.declared.read.NumFault.{NumFault}
use Rattle.sexpr_text.specs.Items.{Item}
use Rattle.board_text.specs.Fields.{list_of}
use Rattle.board_text.specs.Numbers.{first_of, point_fault, length_fault_at, whole_fault_at}
use Rattle.board_text.specs.Layers.{Name, layer_names, name_at, layer_number, layers_between}
use Rattle.board_language.specs.declared.board.Track.{Track}
use Rattle.board_language.specs.declared.board.Via.{Via}
use Rattle.board_text.specs.Items.{Context, line_of, span_of, size_of, length_in, point_in, net_of}

-- the layer that a track names
abbrev pub track_layer : List ℕ → Item → Name
track_layer bytes item = name_at 0 (layer_names bytes (codes "layer") item)

-- the track that is read of an item
unfoldable pub track_of : Context → Item → Track
track_of c item =
    record {
      from = point_in c.bytes (codes "start") item;
      to = point_in c.bytes (codes "end") item;
      width = size_of (length_in c.bytes (codes "width") item);
      layer = layer_number c.copper (track_layer c.bytes item);
      net = net_of c.bytes item;
      span = span_of item;
      line = line_of c.bytes item.from;
    }

-- the first of a track's numbers that can't be read
unfoldable pub track_fault : List ℕ → Item → Option NumFault
track_fault bytes item =
    first_of (
    point_fault bytes (list_of bytes (codes "start") item)
    ∷ point_fault bytes (list_of bytes (codes "end") item)
    ∷ length_fault_at bytes 0 (list_of bytes (codes "width") item)
    ∷ whole_fault_at bytes 0 (list_of bytes (codes "net") item)
    ∷ [])

-- the first or second layer that a via names
abbrev pub via_layer : List ℕ → ℕ → Item → Name
via_layer bytes place item = name_at place (layer_names bytes (codes "layers") item)

-- the via that is read of an item, on these layers
abbrev pub via_with : List ℕ → ℕ → Item → Via
via_with bytes layers item =
    record {
      at = point_in bytes (codes "at") item;
      size = size_of (length_in bytes (codes "size") item);
      layers = layers;
      net = net_of bytes item;
      span = span_of item;
      line = line_of bytes item.from;
    }

-- a via has copper on all layers from the one that it names to the other, in the board's order
unfoldable pub via_of : Context → Item → Via
via_of c item = via_with c.bytes (layers_between c.copper (via_layer c.bytes 0 item) (via_layer c.bytes 1 item)) item

-- the first of a via's numbers that can't be read
unfoldable pub via_fault : List ℕ → Item → Option NumFault
via_fault bytes item =
    first_of (
    point_fault bytes (list_of bytes (codes "at") item)
    ∷ length_fault_at bytes 0 (list_of bytes (codes "size") item)
    ∷ whole_fault_at bytes 0 (list_of bytes (codes "net") item)
    ∷ [])
