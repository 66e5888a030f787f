use Rattle.std.proofs.Common.{◌∙◌, not}
use Rattle.std.specs.Prelude.{codes}
use Rattle.sexpr_text.specs.Items.{is_headed}
use Rattle.board_language.specs.Zones.{corner_lists}
use Rattle.board_zones.proofs.Corners.{any_through}
use Rattle.board_zones.proofs.outline.has_arc.Goals as goal

pub returns : goal.returns
returns c =
    c.has_other_point.ensures
    ∙ any_through (λ p. not (is_headed p.bytes (codes "xy") p.item)) c.args.zone.now.bytes (corner_lists c.args.zone.now.bytes c.args.zone.now.item) c.deref.result.now c.in_ok-lists.lists.items
    c.deref.ensures.value c.in_ok-lists.ensures
