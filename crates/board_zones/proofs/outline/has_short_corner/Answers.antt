use Rattle.std.proofs.Common.{◌∙◌, Some}
use Rattle.board_text.specs.Numbers.{is_short}
use Rattle.board_language.specs.Zones.{corner_lists}
use Rattle.board_zones.proofs.Corners.{any_through}
use Rattle.board_zones.proofs.outline.has_short_corner.Goals as goal

pub returns : goal.returns
returns c =
    c.has_short_point.ensures
    ∙ any_through (λ p. is_short 2 (Some p.item)) c.args.zone.now.bytes (corner_lists c.args.zone.now.bytes c.args.zone.now.item) c.deref.result.now c.in_ok-lists.lists.items
    c.deref.ensures.value c.in_ok-lists.ensures
