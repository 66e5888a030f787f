use Rattle.std.proofs.Common.{◌≡◌, map, drop}
use Rattle.board_text.specs.Numbers.{first_of}
use Rattle.board_text.specs.Layers.{layer_fault}
use Rattle.board_items.proofs.stack.layers_fault.Given as goal

abbrev pub invariant-each : goal.invariant-each
invariant-each l = first_of (map (λ p. layer_fault p.bytes p.item) (drop l.layer-index l.layers)) ≡ first_of (map (λ p. layer_fault p.bytes p.item) l.layers)
