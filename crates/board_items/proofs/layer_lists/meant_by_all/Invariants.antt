use Rattle.std.proofs.Common.{◌≡◌, ◌++◌, drop, flat_map, map}
use Rattle.board_text.specs.Layers.{meant_by}
use Rattle.board_items.proofs.layer_lists.meant_by_all.Given as goal

abbrev pub invariant-each : goal.invariant-each
invariant-each l =
    map (λ t. t.items) l.meant.items ++ flat_map (meant_by (map (λ t. t.items) l.copper)) (map (λ t. t.items) (drop l.name-index l.names))
    ≡ flat_map (meant_by (map (λ t. t.items) l.copper)) (map (λ t. t.items) l.names)
