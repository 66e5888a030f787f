use Rattle.std.proofs.Common.{◌≡◌, not, drop}
use Rattle.std.specs.List.{list_any}
use Rattle.board_text.specs.Fields.{has_list}
use Rattle.board_items.proofs.lists.lacks.Given as goal

abbrev pub invariant-each : goal.invariant-each
invariant-each l = list_any (λ name. not (has_list l.item.bytes name.now l.item.item)) (drop l.name-index l.names) ≡ list_any (λ name. not (has_list l.item.bytes name.now l.item.item)) l.names
