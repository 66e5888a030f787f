use Rattle.std.proofs.Common.{◌≡◌, ◌++◌, map, filter, drop}
use Rattle.sexpr_text.specs.Items.{children_of}
use Rattle.board_text.specs.Layers.{is_layer, layers_in}
use Rattle.sexpr_text.specs.Parts.{part_of}
use Rattle.board_items.proofs.stack.layers_in.Given as goal

abbrev pub invariant-each : goal.invariant-each
invariant-each l = l.layers.items ++ map (part_of l.item.bytes) (filter is_layer (drop l.place (children_of l.item.item))) ≡ map (part_of l.item.bytes) (layers_in l.item.item)
