use Rattle.std.proofs.Common.{◌<◌, sym, ◌∙◌, ap, subst, map, ℕ, arith, length}
use Rattle.std.specs.Arc.{arc_value}
use Rattle.std.proofs.lemmas.List.{get_or_read, length-map, get_or-map}
use Rattle.fill_rules.specs.Tasks.{ranked, task_at, no_task}
use Rattle.fill_rules.specs.Made.{no_fill}
use Rattle.output_rules.specs.Reported.{task_line}
use Rattle.clusters.proofs.Ranks.{fill_task}
use Rattle.fill_text.proofs.TasksSaid.{item_more, line_is}
use Rattle.fill_text.proofs.lines_of_tasks.task_lines.Goals as goal

pub each-preserved : goal.each-preserved
each-preserved c =
    let b = c.args.board.now.board in
    let fs = map arc_value c.args.fills.now in
    let ranks = c.in_ok-ranks.ranks.items in
    let l : c.each.k < length c.in_ok-ranks.ranks.items = omega (arith, c.each-test.true, c.len-k-end.ensures, c.in_ok-ranks.ranks.ok) in
    let m = length-map c.in_ok-ranks.ranks.items (task_at b) in
    let er = get_or_read ranks c.each.k c.index-rank.result.now l c.index-rank.ensures 0 in
    let r : c.index-rank.result.now < length (ranked b) = subst (λ (n : ℕ). n < length (ranked b)) (sym er) (c.in_ok-ranks.ensures.each c.each.k 0 l) in
    item_more (task_line b fs c.args.traced.now) (map (task_at b) ranks) c.each.k (no_task b) c.in_ok-line.line c.each.lines.items c.push.new.self.items (omega (arith, l, m)) c.each.invariant
    (c.in_ok-line.ensures
    ∙ line_is b fs c.args.traced.now c.index-rank.result.now c.fill_at.result.now r (c.fill_at.ensures no_fill)
    (fill_task b fs c.requires c.index-rank.result.now c.fill_at.result.now (omega (arith, r, c.requires.count)) (c.fill_at.ensures no_fill))
    ∙ ap (task_line b fs c.args.traced.now) (ap (task_at b) er ∙ sym (get_or-map (task_at b) ranks c.each.k 0 (no_task b) l)))
    c.in_ok-push.ensures.items
