use Rattle.std.proofs.Common.{sym, ap, ◌∙◌, map}
use Rattle.std.specs.Arc.{arc_value}
use Rattle.fills.specs.Fills.{task_of}
use Rattle.fill_rules.specs.Made.{Made}
use Rattle.zone_fill.proofs.Aboves.{none_above_first, above_step, fill_at, task_at_fill, fills_count, wanted_by}
use Rattle.zone_fill.proofs.all.above.Goals as goal

pub each-init : goal.each-init
each-init c = none_above_first c.args.board.now.board _ _ (ap (map arc_value) c.new-above.ensures.items)

pub reach-wanted-requires-clause-upper : goal.reach-wanted-requires-clause-upper
reach-wanted-requires-clause-upper c =
    task_at_fill arc_value c.args.board.now.board c.args.fills.now c.each.fill-index c.fill-item.result c.each-test.true c.fill-item.is (task_of c.behind-fill.inside.task)
    (ap (λ (m : Made). m.task) (sym (c.behind-fill.view_is ∙ c.deref.ensures))) c.requires.next.first

pub each-preserved : goal.each-preserved
each-preserved c =
    above_step c.args.board.now.board (task_of c.args.task) (map arc_value c.args.fills.now) c.each.fill-index _ (map arc_value c.each.above.items) _ c.reach-wanted.result c.ranks_law.ensures c.requires.next
    (fills_count arc_value c.args.fills.now c.each.fill-index c.each-test.true)
    (c.behind-fill.view_is ∙ c.deref.ensures ∙ fill_at arc_value c.args.fills.now c.each.fill-index c.fill-item.result c.each-test.true c.fill-item.is)
    c.reach-wanted.ensures (wanted_by c.reach-wanted.result _ _ _ _ (sym (c.behind-fill.view_is ∙ c.deref.ensures)) c.in_ok-push_if.ensures) c.each.invariant
