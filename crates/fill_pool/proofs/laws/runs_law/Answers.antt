use Rattle.fill_pool.proofs.Boards.{board_runs}
use Rattle.fill_pool.proofs.laws.runs_law.Goals as goal

pub returns : goal.returns
returns c = board_runs
