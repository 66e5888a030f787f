use Rattle.std.proofs.Common.{◌≡◌, ◌++◌, drop, filter, map}
use Rattle.board_text.specs.Layers.{is_copper}
use Rattle.board_items.proofs.stack.copper_among.Given as goal

abbrev pub invariant-each : goal.invariant-each
invariant-each l = l.copper ++ filter is_copper (map (λ t. t.items) (drop l.name-index l.names)) ≡ filter is_copper (map (λ t. t.items) l.names)
