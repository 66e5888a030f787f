use Rattle.std.proofs.Common.{map}
use Rattle.std.specs.Arc.{arc_value}
use Rattle.fill_text.proofs.TasksSaid.{part_said}
use Rattle.fill_text.proofs.lines_of_nodes.part_copper.Goals as goal

pub returns-clause-copper : goal.returns-clause-copper
returns-clause-copper c =
    part_said c.args.board.now.board (map arc_value c.args.fills.now) c.requires.fills c.args.fill c.args.first c.in_ok-zone.zone c.in_ok-part.part c.in_ok-layer.layer
    (record { zone = c.task_at-task.result.zone; layer = c.task_at-task.result.layer }) c.task_at-task.ensures c.in_ok-zone.ensures c.in_ok-layer.ensures c.in_ok-part.ensures.number
