use Rattle.std.proofs.Common.{refl, arith, map}
use Rattle.std.specs.Arc.{arc_value}
use Rattle.zone_fill.proofs.Aboves.{next_task, first_more, pushed_fill, count_more, all_fills, lent_task}
use Rattle.zone_fill.proofs.all.fill_all.Goals as goal

pub above-requires-clause-next : goal.above-requires-clause-next
above-requires-clause-next g c =
    next_task c.args.board.now.board c.in_ok-tasks.tasks.items c.deref-task-items.result.now c.each.task-index _ arc_value c.each.fills.items c.deref.result.now c.in_ok-tasks.ensures.order
    c.deref-task-items.ensures.value c.deref.ensures.value c.each-test.true c.each.invariant.count c.each.invariant.first

pub each-preserved : goal.each-preserved
each-preserved g c =
    let next = next_task c.args.board.now.board c.in_ok-tasks.tasks.items c.deref-task-items.result.now c.each.task-index _ arc_value c.each.fills.items c.each.fills.items c.in_ok-tasks.ensures.order
    c.deref-task-items.ensures.value refl c.each-test.true c.each.invariant.count c.each.invariant.first in
    let new = pushed_fill arc_value c.each.fills.items c.push.new.self.items c.in_ok-new.field-0 _ c.in_ok-push.ensures.items c.in_ok-new.ensures.ok in
    record {
      first = first_more c.args.board.now.board _ (map arc_value c.each.fills.items) _ _ (lent_task c.args.board.now.board _ _ c.each.task-index _ c.deref-task-items.ensures.value c.each-test.true c.in_ok-tasks.ensures.each) next c.in_ok-fill.ensures.fill new;
      count = count_more _ _ _ _ new c.each.invariant.count;
      steps = omega (arith, c.fill_task.ensures.steps, c.each.invariant.steps);
    }

pub returns-clause-fills : goal.returns-clause-fills
returns-clause-fills g c =
    all_fills c.args.board.now.board c.in_ok-tasks.tasks.items c.deref-task-items.result.now c.each.task-index _ c.in_ok-tasks.ensures.order c.deref-task-items.ensures.value
    (omega (arith, c.each-test.false, c.each.auto)) c.each.invariant.count c.each.invariant.first
