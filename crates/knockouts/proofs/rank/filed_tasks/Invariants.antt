use Rattle.std.proofs.Common.{◌≡◌, ◌++◌, map, drop}
use Rattle.fill_rules.specs.Tasks.{tasks_from}
use Rattle.fills.specs.Fills.{task_of}
use Rattle.knockouts.proofs.rank.filed_tasks.Given as goal

abbrev pub invariant-each : goal.invariant-each
invariant-each l = map task_of l.tasks.items ++ tasks_from l.count l.i (drop l.i l.zones) ≡ tasks_from l.count 0 l.zones
