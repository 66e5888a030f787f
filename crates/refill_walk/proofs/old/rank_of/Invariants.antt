use Rattle.std.proofs.Common.{◌≡◌, ◌+◌, map, drop}
use Rattle.fill_rules.specs.Nodes.{rank_in}
use Rattle.fills.specs.Fills.{task_of}
use Rattle.refill_walk.proofs.old.rank_of.Given as goal

abbrev pub invariant-each : goal.invariant-each
invariant-each l =
    l.i + rank_in (task_of l.task) (map task_of (drop l.i l.tasks)) ≡ rank_in (task_of l.task) (map task_of l.tasks)
