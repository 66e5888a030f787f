use Rattle.std.proofs.Common.{◌∙◌, ap, ◌<◌, length, map, get_or, arith}
use Rattle.std.specs.Arc.{arc_value}
use Rattle.fill_rules.specs.Tasks.{ranked}
use Rattle.fill_rules.specs.Made.{no_fill}
use Rattle.refill_laws.specs.Walked.{is_set}
use Rattle.refill_walk.proofs.Places.{task_count, old_is, old_within}
use Rattle.refill_walk.proofs.old.old_fill.Goals as goal

pub fill_at-requires : goal.fill_at-requires
fill_at-requires c =
    let e = c.args.it.now in
    let h = c.requires.edited in
    let m = task_count e.board.now.board e.tasks.now h.order in
    let l : c.args.rank < length (ranked e.board.now.board) = omega (arith, m, c.requires.rank) in
    let o = old_is e.filled.now.board e.board.now.board e.old_tasks.now e.tasks.now h.order_before h.order c.args.rank _ c.requires.rank c.rank_of.result c.rank_of.ensures in
    let w = old_within e.filled.now.board e.board.now.board (is_set e.flags.now) arc_value e.olds.now h.flagged h.right c.args.rank l in
    omega (arith, o, w)

pub returns : goal.returns
returns c =
    let e = c.args.it.now in
    let h = c.requires.edited in
    c.fill_at.ensures
    ∙ ap (λ n. get_or (map arc_value e.olds.now) n no_fill)
    (old_is e.filled.now.board e.board.now.board e.old_tasks.now e.tasks.now h.order_before h.order c.args.rank _ c.requires.rank c.rank_of.result c.rank_of.ensures)
