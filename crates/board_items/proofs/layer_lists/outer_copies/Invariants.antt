use Rattle.std.proofs.Common.{◌≡◌, ◌++◌, drop, filter, map}
use Rattle.board_text.specs.Layers.{is_outer}
use Rattle.board_items.proofs.layer_lists.outer_copies.Given as goal

abbrev pub invariant-each : goal.invariant-each
invariant-each l =
    map (λ t. t.items) l.copies.items ++ filter is_outer (map (λ t. t.items) (drop l.name-index l.names)) ≡ filter is_outer (map (λ t. t.items) l.names)
