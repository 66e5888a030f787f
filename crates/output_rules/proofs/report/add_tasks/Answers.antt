use Rattle.std.proofs.Common.{refl, arith, ◌<◌, length}
use Rattle.std.specs.List.{flat_map}
use Rattle.output_rules.specs.Report.{task_text}
use Rattle.output_rules.proofs.Joined.{added_item}
use Rattle.output_rules.proofs.report.add_tasks.Goals as goal

pub tasks-preserved : goal.tasks-preserved
tasks-preserved c =
    let within : c.tasks.task-index < length c.args.tasks.now = omega arith in
    added_item (flat_map task_text) task_text (λ x ys. refl) c.args.tasks.now c.tasks.task-index c.task-item.result c.tasks.out.items c.add_task.new.out.items _
    within c.task-item.is c.in_ok-add_task.ensures c.tasks.invariant
