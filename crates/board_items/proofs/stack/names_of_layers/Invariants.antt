use Rattle.std.proofs.Common.{◌≡◌, ◌++◌, drop, filter_map, map}
use Rattle.board_text.specs.Layers.{name_of_layer}
use Rattle.board_items.proofs.stack.names_of_layers.Given as goal

abbrev pub invariant-each : goal.invariant-each
invariant-each l =
    map (λ t. t.items) l.names.items ++ filter_map (λ p. name_of_layer p.bytes p.item) (drop l.layer-index l.layers) ≡ filter_map (λ p. name_of_layer p.bytes p.item) l.layers
