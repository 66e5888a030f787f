use Rattle.std.proofs.Common.{◌≡◌, ◌++◌, drop, map}
use Rattle.board_items.proofs.layer_lists.copies.Given as goal

abbrev pub invariant-each : goal.invariant-each
invariant-each l = map (λ t. t.items) l.copies.items ++ map (λ t. t.items) (drop l.name-index l.names) ≡ map (λ t. t.items) l.names
