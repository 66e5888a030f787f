use Rattle.std.proofs.Common.{◌∙◌, ap}
use Rattle.hulls.specs.Cells.{around}
use Rattle.fill_rules.specs.Tasks.{settings_of}
use Rattle.fill_rules.specs.Needs.{item_need}
use Rattle.board_language.specs.declared.board.Zone.{Zone}
use Rattle.fills.specs.Fills.{task_of}
use Rattle.dirtied.proofs.Ranks.{beside_task}
use Rattle.dirtied.proofs.beside.is_beside.Goals as goal

pub returns : goal.returns
returns c =
    beside_task c.args.board.now.board (task_of c.args.task) c.args.hulls.now c.need-need.result c.frame-frame.result c.is_some_near.result
    (c.need-need.ensures.value ∙ ap (λ (z : Zone). item_need c.args.board.now.board (settings_of z) 0) c.zone_of-zone.ensures)
    (c.frame-frame.ensures.value ∙ ap (λ (z : Zone). around z.outline) c.zone_of-zone.ensures) c.is_some_near.ensures
