use Rattle.std.proofs.Common.{◌≡◌, not, drop}
use Rattle.std.specs.Prelude.{codes}
use Rattle.std.specs.List.{list_any}
use Rattle.sexpr_text.specs.Items.{is_headed}
use Rattle.board_items.proofs.points.has_other_point.Given as goal

abbrev pub invariant-each : goal.invariant-each
invariant-each l = list_any (λ p. not (is_headed p.bytes (codes "xy") p.item)) (drop l.list-index l.lists) ≡ list_any (λ p. not (is_headed p.bytes (codes "xy") p.item)) l.lists
