use Rattle.std.proofs.Common.{◌∙◌}
use Rattle.board_language.specs.Zones.{corners_read}
use Rattle.board_zones.proofs.Sound.{units_of}
use Rattle.board_zones.proofs.outline.outline_of.Goals as goal

pub returns-in-Ok : goal.returns-in-Ok
returns-in-Ok c =
    units_of c.in-Ok.outline c.deref.result.now (corners_read c.args.zone.now.bytes c.args.zone.now.item) c.in-Ok.ensures.ok.1 (c.deref.ensures.value ∙ c.in_ok-corners.ensures.value)
