-- The layers that a `layers` declares, as parts of the text.
use Rattle.std.proofs.Common.{◌≡◌, ℕ, List, map, filter_map, refl, sym, ap, ◌∙◌}
use Rattle.std.specs.Prelude.{is_none}
use Rattle.std.specs.List.{list_any}
use Rattle.std.proofs.lemmas.Simd.{map-map}
use Rattle.sexpr_text.specs.Items.{Item}
use Rattle.sexpr_text.specs.Parts.{Part, part_of}
use Rattle.board_text.specs.Layers.{Name, layers_in, name_of_layer, layer_fault, layer_names_in, layers_fault}
use Rattle.board_text.specs.Numbers.{first_of}
use Rattle.board_text.proofs.Walks.{any_of_map}
use Rattle.board_items.proofs.Picks.{picked_map}

pub any_lacks : (bytes : List ℕ) (xs : List Item) → list_any (λ p. is_none (name_of_layer p.bytes p.item)) (map (part_of bytes) xs) ≡ list_any (λ x. is_none (name_of_layer bytes x)) xs
any_lacks bytes xs = sym (any_of_map (λ p. is_none (name_of_layer p.bytes p.item)) (part_of bytes) xs (list_any (λ x. is_none (name_of_layer bytes x)) xs) refl)

pub first_fault : (bytes : List ℕ) (item : Item) → first_of (map (λ p. layer_fault p.bytes p.item) (map (part_of bytes) (layers_in item))) ≡ layers_fault bytes item
unfolding layers_fault
first_fault bytes item = ap first_of (map-map (λ p. layer_fault p.bytes p.item) (part_of bytes) (layers_in item))

pub names_are : (bytes : List ℕ) (item : Item) (layers : List Part) (names : List Name) → layers ≡ map (part_of bytes) (layers_in item) → names ≡ filter_map (λ p. name_of_layer p.bytes p.item) layers
    → names ≡ layer_names_in bytes item
names_are bytes item layers names e h =
    h ∙ ap (filter_map (λ p. name_of_layer p.bytes p.item)) e ∙ picked_map (λ p. name_of_layer p.bytes p.item) (part_of bytes) (layers_in item)
