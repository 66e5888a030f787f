use Rattle.std.proofs.Common.{◌≡◌, drop, Some}
use Rattle.std.specs.List.{list_any}
use Rattle.board_text.specs.Numbers.{is_short}
use Rattle.board_items.proofs.points.has_short_point.Given as goal

abbrev pub invariant-each : goal.invariant-each
invariant-each l = list_any (λ p. is_short 2 (Some p.item)) (drop l.list-index l.lists) ≡ list_any (λ p. is_short 2 (Some p.item)) l.lists
