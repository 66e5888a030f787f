use Rattle.std.proofs.Common.{◌≡◌, ◌&&◌, ◌||◌, drop}
use Rattle.std.specs.Prelude.{codes, find}
use Rattle.sexpr_text.specs.Items.{children_of, is_headed}
use Rattle.board_text.specs.Lists.{is_list}
use Rattle.board_language.specs.Pads.{bridge_list}
use Rattle.board_pads.proofs.bridge.bridge_list.Given as goal

abbrev pub invariant-each : goal.invariant-each
invariant-each l =
    find (λ x. is_list x && (is_headed l.pad.bytes (codes "thermal_bridge_width") x || is_headed l.pad.bytes (codes "thermal_width") x)) (drop l.place (children_of l.pad.item))
    ≡ bridge_list l.pad.bytes l.pad.item
