use Rattle.fill_pool.proofs.Boards.{above_done}
use Rattle.fill_pool.proofs.laws.above_law.Goals as goal

pub returns : goal.returns
returns c = above_done
