use Rattle.std.proofs.Common.{◌≡◌, ◌||◌, find, filter, drop}
use Rattle.std.specs.Prelude.{codes}
use Rattle.sexpr_text.specs.Items.{is_headed, children_of}
use Rattle.board_text.specs.Lists.{is_list}
use Rattle.board_language.specs.Zones.{layer_list}
use Rattle.board_zones.proofs.lists.layer_list.Given as goal

abbrev pub invariant-each : goal.invariant-each
invariant-each l =
    find (λ list. is_headed l.zone.bytes (codes "layer") list || is_headed l.zone.bytes (codes "layers") list) (filter is_list (drop l.place (children_of l.zone.item))) ≡ layer_list l.zone.bytes l.zone.item
