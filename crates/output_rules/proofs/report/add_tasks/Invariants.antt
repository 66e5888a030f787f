use Rattle.std.proofs.Common.{◌≡◌, ◌++◌, drop}
use Rattle.std.specs.List.{flat_map}
use Rattle.output_rules.specs.Report.{task_text}
use Rattle.output_rules.proofs.report.add_tasks.Given as goal

-- what was added, and what those that are left add, is all
abbrev pub invariant-tasks : goal.invariant-tasks
invariant-tasks l = l.out.items ++ flat_map task_text (drop l.task-index l.tasks) ≡ l.fn.out.items ++ flat_map task_text l.tasks
