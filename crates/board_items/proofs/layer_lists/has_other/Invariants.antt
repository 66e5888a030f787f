use Rattle.std.proofs.Common.{◌≡◌, not, drop}
use Rattle.std.specs.List.{list_any}
use Rattle.board_text.specs.Layers.{is_among}
use Rattle.board_items.proofs.layer_lists.has_other.Given as goal

abbrev pub invariant-each : goal.invariant-each
invariant-each l = list_any (λ v. not (is_among l.copper v.items)) (drop l.name-index l.meant) ≡ list_any (λ v. not (is_among l.copper v.items)) l.meant
