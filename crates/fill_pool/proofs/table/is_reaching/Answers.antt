use Rattle.fills.specs.Fills.{task_of}
use Rattle.fill_pool.proofs.Tables.{reaching_is}
use Rattle.fill_pool.proofs.table.is_reaching.Goals as goal

pub returns : goal.returns
returns c =
    reaching_is task_of c.args.board.now.board c.args.tasks.now c.args.upper c.args.lower _ _ c.reach.result c.ranks_law.ensures c.requires.order c.requires.upper c.requires.lower c.reach.ensures
