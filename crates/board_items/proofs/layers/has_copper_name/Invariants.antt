use Rattle.std.proofs.Common.{◌≡◌, drop}
use Rattle.std.specs.List.{list_any}
use Rattle.board_text.specs.Layers.{is_copper}
use Rattle.board_items.proofs.layers.has_copper_name.Given as goal

abbrev pub invariant-each : goal.invariant-each
invariant-each l = list_any (λ v. is_copper v.items) (drop l.name-index l.names) ≡ list_any (λ v. is_copper v.items) l.names
