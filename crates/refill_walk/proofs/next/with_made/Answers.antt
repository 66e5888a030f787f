use Rattle.std.proofs.Common.{◌≡◌, ◌∙◌, sym, subst, ap, length, map, arith}
use Rattle.std.proofs.lemmas.List.{length-map}
use Rattle.std.specs.Arc.{arc_value}
use Rattle.fill_rules.specs.Tasks.{task_at}
use Rattle.fills.specs.Fills.{IsFillOf}
use Rattle.refill_laws.specs.Walked.{is_set}
use Rattle.refill_walk.specs.Inner.Walk.{IsFilledAgain}
use Rattle.refill_walk.proofs.Places.{task_count, task_is, is_task}
use Rattle.refill_walk.proofs.Steps.{made_next, next_lent, same_pieces, one_longer, few_again}
use Rattle.refill_walk.proofs.next.with_made.Goals as goal

pub fill_anew-requires-clause-next : goal.fill_anew-requires-clause-next
fill_anew-requires-clause-next g c =
    let e = c.args.it.now in
    let h = c.requires.edited in
    let fills = c.args.walk.fills in
    let r : c.len-rank.result ≡ length fills.items = omega (arith, c.len-rank.ensures, fills.ok) in
    let m = task_count e.board.now.board e.tasks.now h.order in
    next_lent e.board.now.board arc_value fills.items c.deref.result.now _ c.deref.ensures.value c.requires.walked.walked.right (omega (arith, m, c.requires.more))
    (task_is e.board.now.board e.tasks.now h.order c.len-rank.result _ (omega (arith, r, c.requires.more)) ∙ ap (task_at e.board.now.board) r)

pub fill_anew-requires-clause-task : goal.fill_anew-requires-clause-task
fill_anew-requires-clause-task g c =
    let e = c.args.it.now in
    let r : c.len-rank.result ≡ length c.args.walk.fills.items = omega (arith, c.len-rank.ensures, c.args.walk.fills.ok) in
    is_task e.board.now.board e.tasks.now c.requires.edited.order c.len-rank.result _ (omega (arith, r, c.requires.more))

pub overflow_add-walk : goal.overflow_add-walk
overflow_add-walk g c =
    let e = c.args.it.now in
    let fills = c.args.walk.fills in
    let m = task_count e.board.now.board e.tasks.now c.requires.edited.order in
    let n = few_again e.filled.now.board e.board.now.board (map arc_value e.olds.now) (is_set e.flags.now) (map arc_value fills.items) c.args.walk.changed.items c.args.walk.count
    c.requires.walked (length fills.items) (length-map fills.items arc_value) c.requires.edited.sound (omega (arith, m, c.requires.more)) in
    omega (arith, n, c.in_ok-walk.ensures.count)

pub returns-clause-walked : goal.returns-clause-walked
returns-clause-walked g c =
    let e = c.args.it.now in
    let h = c.requires.edited in
    let fills = c.args.walk.fills in
    let r : c.len-rank.result ≡ length fills.items = omega (arith, c.len-rank.ensures, fills.ok) in
    let d = ap (λ xs. length xs) c.deref.ensures.value in
    made_next e.filled.now.board e.board.now.board (map arc_value e.olds.now) (is_set e.flags.now) (map arc_value fills.items) c.args.walk.changed.items c.args.walk.count
    c.requires.walked c.len-rank.result (length-map fills.items arc_value ∙ sym r)
    (arc_value c.in_ok-fill.fill) (arc_value c.old_fill-old.result.now) c.are_same_pieces-differs.result
    (subst (λ n. IsFillOf e.board.now.board n (arc_value c.in_ok-fill.fill)) (d ∙ sym r) c.in_ok-fill.ensures.fill)
    (subst (λ n. IsFilledAgain e.board.now.board (is_set e.flags.now) c.args.walk.changed.items n) (sym r) c.requires.anew)
    c.old_fill-old.ensures
    (same_pieces c.are_same_pieces-differs.result _ _ _ _ c.deref-2.ensures c.deref-3.ensures c.are_same_pieces-differs.ensures)
    _ _ c.in_ok-walk.ensures.fills c.in_ok-walk.ensures.changed _ (omega (arith, c.in_ok-walk.ensures.count))

pub returns-clause-longer : goal.returns-clause-longer
returns-clause-longer g c = one_longer arc_value c.args.walk.fills.items _ _ c.in_ok-walk.ensures.fills
