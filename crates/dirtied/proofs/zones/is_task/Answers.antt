use Rattle.std.proofs.Common.{ap, subst, ◌<◌, List, length}
use Rattle.board_language.specs.declared.board.Zone.{Zone}
use Rattle.fills.specs.Fills.{task_of}
use Rattle.dirtied.proofs.InReach.{task_told}
use Rattle.dirtied.proofs.zones.is_task.Goals as goal

pub returns-then-place-zones : goal.returns-then-place-zones
returns-then-place-zones c =
    task_told c.args.board.now.board (task_of c.args.task) c.zone_of-zone.result.now _ c.is_layer_of.result (subst (λ (zs : List Zone). c.args.task.zone < length zs) c.zones.ensures c.if-place-zones.true) c.zone_of-zone.ensures (ap length c.layers.ensures)
    c.is_layer_of.ensures
