use Rattle.std.proofs.Common.{map}
use Rattle.std.specs.Arc.{arc_value}
use Rattle.fills.specs.Fills.{task_of}
use Rattle.knockouts.specs.Obstacles.{need_of}
use Rattle.knockouts.proofs.Pushed.{all_needs}
use Rattle.knockouts.proofs.Reading.{above_task, above_tasks, few_layers}
use Rattle.knockouts.proofs.Range.{list_range}
use Rattle.knockouts.proofs.obstacles.needs.Goals as goal

pub zone_of-zone-requires : goal.zone_of-zone-requires
zone_of-zone-requires c = above_task c.args.board.now.board (task_of c.args.task) (map arc_value c.args.above.now) c.requires

pub of_gaps-requires : goal.of_gaps-requires
of_gaps-requires c =
    few_layers c.args.board.now.board (task_of c.args.task) c.sound.ensures (above_task c.args.board.now.board (task_of c.args.task) (map arc_value c.args.above.now) c.requires)

pub of_fills-requires : goal.of_fills-requires
of_fills-requires c = above_tasks c.args.board.now.board (task_of c.args.task) (map arc_value c.args.above.now) c.requires

pub of_items-requires : goal.of_items-requires
of_items-requires c =
    few_layers c.args.board.now.board (task_of c.args.task) c.sound.ensures (above_task c.args.board.now.board (task_of c.args.task) (map arc_value c.args.above.now) c.requires)

pub returns-clause-value : goal.returns-clause-value
returns-clause-value c =
    rw (c.in_ok-append-2.ensures.items, c.in_ok-append.ensures.items)
    (all_needs need_of c.args.board.now.board (task_of c.args.task) c.zone_of-zone.result.now (map arc_value c.args.above.now) c.pads.result.now _ _ _
    c.zone_of-zone.ensures c.pads.ensures c.in_ok-needs.ensures c.in_ok-fills.ensures c.in_ok-gaps.ensures)

pub returns-clause-range : goal.returns-clause-range
returns-clause-range c =
    list_range need_of c.args.board.now.board (task_of c.args.task) (map arc_value c.args.above.now) _ (returns-clause-value c) c.sound.ensures c.requires
