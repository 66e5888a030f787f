use Rattle.fill_pool.proofs.Boards.{follows}
use Rattle.fill_pool.proofs.laws.follows_law.Goals as goal

pub returns : goal.returns
returns c = follows
