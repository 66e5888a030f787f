use Rattle.fills.specs.Fills.{task_of}
use Rattle.fill_pool.proofs.Counts.{few}
use Rattle.fill_pool.proofs.pool.few_tasks.Goals as goal

pub returns : goal.returns
returns c = few task_of c.args.board.now.board c.args.tasks.now c.sound.ensures c.requires
