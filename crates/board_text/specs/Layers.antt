-- Layers: which a board declares, which are of copper, and which a list of layers names.
use Rattle.std.specs.Prelude.{ℕ, zero, suc, ◌+◌, ◌*◌, Bool, false, not, ◌&&◌, ◌||◌, ◌==◌, nat_eq, nat_le, cond, if◌then◌else◌, List, [], ◌∷◌, map, filter, filter_map, flat_map, length, codes, slice_get, unwrap_or, Option, None, Some}
use Rattle.std.specs.List.{ends_with, list_any, prefix_len}
use Rattle.std.specs.Str.{bytes_eq}
use Rattle.sexpr_text.specs.Items.{Item, children_of}
use Rattle.board_text.specs.Lists.{is_list, is_string, behind_head}
use Rattle.board_text.specs.Fields.{list_of, text_at, texts_of}
use Rattle.board_text.specs.Numbers.{first_of, if_there, whole_fault}
use Rattle.grid_num.specs.declared.read.NumFault.{NumFault}

-- a name is its bytes
abbrev pub Name : Type 0
Name = List ℕ

-- the name is one of these
abbrev pub is_among : List Name → Name → Bool
is_among names name = list_any (λ other. bytes_eq other name) names

-- a name stands twice
unfoldable pub has_double : List Name → Bool
has_double [] = false
has_double (name ∷ names) = is_among names name || has_double names

-- ---- declared layers

-- A layer's list has its number first and its name second: (0 "F.Cu" signal). A string in place of such a list is a layer
-- without a name; a bare word is passed over.
abbrev pub is_layer : Item → Bool
is_layer item = is_list item || is_string item

-- the items of `layers` that stand for layers
abbrev pub layers_in : Item → List Item
layers_in layers = filter is_layer (behind_head layers)

-- the name of a layer, where it has one
abbrev pub name_of_layer : List ℕ → Item → Option Name
name_of_layer bytes layer = cond (is_list layer) (text_at bytes 0 layer) None

-- the names in a `layers` that may be absent
abbrev pub names_in : List ℕ → Option Item → List Name
names_in bytes None = []
names_in bytes (Some layers) = filter_map (name_of_layer bytes) (layers_in layers)

-- what is wrong with a layer's number, the first item of its list
abbrev pub layer_fault : List ℕ → Item → Option NumFault
layer_fault bytes layer = if_there whole_fault bytes (slice_get (children_of layer) 0)

-- the first of the layers' numbers that can't be read
unfoldable pub layers_fault : List ℕ → Item → Option NumFault
layers_fault bytes layers = first_of (map (layer_fault bytes) (layers_in layers))

-- the names of the layers in a `layers`, in order
abbrev pub layer_names_in : List ℕ → Item → List Name
layer_names_in bytes layers = filter_map (name_of_layer bytes) (layers_in layers)

-- the names of all layers that a board declares, in its order
abbrev pub declared_layers : List ℕ → Item → List Name
declared_layers bytes board = names_in bytes (list_of bytes (codes "layers") board)

-- a copper layer's name ends in .Cu
abbrev pub is_copper : Name → Bool
is_copper name = ends_with nat_eq name (codes ".Cu")

-- the declared copper layers, in the board's order; a layer's number is its place among these, from 0
unfoldable pub copper_layers : List ℕ → Item → List Name
copper_layers bytes board = filter is_copper (declared_layers bytes board)

-- ---- lists of layers

-- the front or the back layer
abbrev pub is_outer : Name → Bool
is_outer name = bytes_eq name (codes "F.Cu") || bytes_eq name (codes "B.Cu")

-- The copper layers that a name in a list of layers means: `*.Cu` is every declared one, `F&B.Cu` is those of F.Cu and
-- B.Cu that are declared; names that aren't of copper mean none.
unfoldable pub meant_by : List Name → Name → List Name
meant_by copper name =
    if bytes_eq name (codes "*.Cu") then copper
    else (if bytes_eq name (codes "F&B.Cu") then filter is_outer copper else (if is_copper name then name ∷ [] else []))

-- the copper layers that a list of layers means
abbrev pub meant_in : List ℕ → List Name → Option Item → List Name
meant_in bytes copper None = []
meant_in bytes copper (Some list) = flat_map (meant_by copper) (texts_of bytes list)

-- whether a list of layers has a copper layer
abbrev pub has_copper : List ℕ → List Name → Option Item → Bool
has_copper bytes copper list = not (length (meant_in bytes copper list) == 0)

-- whether it names a copper layer that isn't declared
abbrev pub has_unknown : List ℕ → List Name → Option Item → Bool
has_unknown bytes copper list = list_any (λ name. not (is_among copper name)) (meant_in bytes copper list)

-- a set of copper layers as a number, the first layer its lowest bit
unfoldable pub bits : List Bool → ℕ
bits [] = 0
bits (b ∷ bs) = cond b 1 0 + 2 * bits bs

-- the set of copper layers that a list of layers means
unfoldable pub layer_set : List ℕ → List Name → Option Item → ℕ
layer_set bytes copper list = bits (map (is_among (meant_in bytes copper list)) copper)

-- ---- the layers of tracks and vias, where each name stands for itself

-- the names in a list, each as it stands
abbrev pub names_of : List ℕ → Option Item → List Name
names_of bytes None = []
names_of bytes (Some list) = texts_of bytes list

-- the names in the list with this head; of a track's `layer` the first counts, of a via's `layers` the first two
abbrev pub layer_names : List ℕ → List ℕ → Item → List Name
layer_names bytes name item = names_of bytes (list_of bytes name item)

-- the name at a place, from 0; the empty one where there is none
abbrev pub name_at : ℕ → List Name → Name
name_at place names = unwrap_or (slice_get names place) []

-- the number of the named layer: how many stand before it
abbrev pub layer_number : List Name → Name → ℕ
layer_number copper name = prefix_len (λ other. not (bytes_eq other name)) copper

-- n is between the two, in either order
abbrev pub is_between : ℕ → ℕ → ℕ → Bool
is_between a b n = (nat_le a n && nat_le n b) || (nat_le b n && nat_le n a)

-- of so many layers from number k on, those between the two
abbrev pub between_from : ℕ → ℕ → ℕ → ℕ → List Bool
between_from a b k zero = []
between_from a b k (suc n) = is_between a b k ∷ between_from a b (suc k) n

-- all copper layers from the one to the other, both counted in
unfoldable pub layers_between : List Name → Name → Name → ℕ
layers_between copper top bottom = bits (between_from (layer_number copper top) (layer_number copper bottom) 0 (length copper))

-- ---- drawings

-- a drawing is on a layer where one of the names in its `layer` passes
abbrev pub is_drawn_on : (Name → Bool) → List ℕ → Item → Bool
is_drawn_on passes bytes item = list_any passes (names_of bytes (list_of bytes (codes "layer") item))

-- the layer of the board's edge
abbrev pub is_edge_name : Name → Bool
is_edge_name name = bytes_eq name (codes "Edge.Cuts")
