use Rattle.std.proofs.Common.{◌≡◌, map, drop, Some}
use Rattle.board_text.specs.Numbers.{first_of, point_fault}
use Rattle.board_items.proofs.points.points_fault.Given as goal

abbrev pub invariant-each : goal.invariant-each
invariant-each l = first_of (map (λ p. point_fault p.bytes (Some p.item)) (drop l.list-index l.lists)) ≡ first_of (map (λ p. point_fault p.bytes (Some p.item)) l.lists)
