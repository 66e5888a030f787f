use Rattle.std.proofs.Common.{◌≡◌, drop}
use Rattle.std.specs.List.{list_any}
use Rattle.board_text.specs.Fields.{list_of}
use Rattle.board_text.specs.Numbers.{is_short}
use Rattle.board_items.proofs.lists.has_short.Given as goal

abbrev pub invariant-each : goal.invariant-each
invariant-each l = list_any (λ name. is_short l.n (list_of l.item.bytes name.now l.item.item)) (drop l.name-index l.names) ≡ list_any (λ name. is_short l.n (list_of l.item.bytes name.now l.item.item)) l.names
