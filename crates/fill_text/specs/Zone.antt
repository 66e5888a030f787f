-- What is written of a zone on one of its layers.
use Rattle.std.specs.Prelude.{ℕ, List}
use Rattle.std.specs.List.{flat_map}
use Rattle.board_language.specs.Board.{Board}
use Rattle.rings.specs.Rings.{Traced}
use Rattle.output_rules.specs.Output.{layer_name, traced_of}
use Rattle.output_rules.specs.Rings.{ring_text}

-- the rings of the zone's fill on the layer, in their order
abbrev pub layer_text : Board → List Traced → ℕ → ℕ → List ℕ
layer_text b traced z l = flat_map (ring_text (layer_name b l)) (traced_of b traced (record { zone = z; layer = l })).rings
