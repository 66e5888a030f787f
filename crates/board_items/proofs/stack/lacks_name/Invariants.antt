use Rattle.std.proofs.Common.{◌≡◌, drop}
use Rattle.std.specs.Prelude.{is_none}
use Rattle.std.specs.List.{list_any}
use Rattle.board_text.specs.Layers.{name_of_layer}
use Rattle.board_items.proofs.stack.lacks_name.Given as goal

abbrev pub invariant-each : goal.invariant-each
invariant-each l = list_any (λ p. is_none (name_of_layer p.bytes p.item)) (drop l.layer-index l.layers) ≡ list_any (λ p. is_none (name_of_layer p.bytes p.item)) l.layers
