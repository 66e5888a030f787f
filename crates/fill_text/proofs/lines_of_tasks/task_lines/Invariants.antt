use Rattle.std.proofs.Common.{◌≡◌, map, take}
use Rattle.std.specs.Arc.{arc_value}
use Rattle.fill_rules.specs.Tasks.{task_at}
use Rattle.output_rules.specs.Reported.{task_line}
use Rattle.fill_text.proofs.lines_of_tasks.task_lines.Given as goal

abbrev pub invariant-each : goal.invariant-each
invariant-each l = l.lines.items ≡ map (task_line l.board.board (map arc_value l.fills) l.traced) (take l.k (map (task_at l.board.board) l.ranks.items))
