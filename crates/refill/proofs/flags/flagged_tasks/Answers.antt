use Rattle.std.proofs.Common.{refl, arith}
use Rattle.dirtied.proofs.Flags.{count_is, task_is}
use Rattle.refill.proofs.Flagged.{next_put, all_flagged}
use Rattle.refill.proofs.flags.flagged_tasks.Goals as goal

pub each-preserved : goal.each-preserved
each-preserved c =
    next_put c.args.board.now.board c.args.flags.now c.each.rank c.each.flagged.items _ _ _ c.each.invariant
    (task_is c.args.board.now.board c.args.tasks.now c.each.rank _ c.requires.tasks c.each-test.true) refl c.in_ok-push_if.ensures

pub returns : goal.returns
returns c =
    let n = count_is c.args.board.now.board c.args.tasks.now c.requires.tasks in
    all_flagged c.args.board.now.board c.args.flags.now c.each.rank c.each.flagged.items (omega (arith, n, c.each-test.false, c.each.auto)) c.each.invariant
