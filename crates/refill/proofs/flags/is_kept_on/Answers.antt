use Rattle.dirtied.proofs.Flags.{task_is}
use Rattle.refill.proofs.Flagged.{kept_so}
use Rattle.refill.proofs.flags.is_kept_on.Goals as goal

pub returns-else-direct-rank : goal.returns-else-direct-rank
returns-else-direct-rank c =
    kept_so c.args.board.now.board c.args.flagged.now c.args.direct.now c.args.rank _ c.is_one_of.result
    (task_is c.args.board.now.board c.args.tasks.now c.args.rank _ c.requires.tasks c.requires.rank) c.if-direct-rank.false c.is_one_of.ensures
