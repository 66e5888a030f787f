use Rattle.std.proofs.Common.{arith}
use Rattle.std.specs.List.{All}
use Rattle.std.proofs.lemmas.List.Elements.{All-push}
use Rattle.rings.specs.Rings.{IsRingInRange}
use Rattle.fill_rules.specs.Tasks.{ranked}
use Rattle.fills.specs.Fills.{task_of}
use Rattle.fill_text.specs.FillLists.{rings_of_task}
use Rattle.fill_text.proofs.ReadRings.{task_more}
use Rattle.fill_text.proofs.reading.rings_of_tasks.Goals as goal

pub each-preserved : goal.each-preserved
each-preserved c =
    let b = c.args.board.now.board in
    record {
      value = task_more (λ rings. rings.items) task_of (rings_of_task c.args.root.now.bytes c.args.root.now.item b) c.in_ok-tasks.tasks.items (ranked b) c.each.k c.index.result.now c.in_ok-rings.rings c.each.all.items _
          c.in_ok-tasks.ensures.order (omega (arith, c.each-test.true, c.len-k-end.ensures, c.in_ok-tasks.tasks.ok)) c.index.ensures c.each.invariant.value c.in_ok-rings.ensures.value c.in_ok-push.ensures.items;
      range = rw c.in_ok-push.ensures.items (All-push (λ rings. All IsRingInRange rings.items) c.each.all.items c.in_ok-rings.rings c.each.invariant.range c.in_ok-rings.ensures.range);
    }
