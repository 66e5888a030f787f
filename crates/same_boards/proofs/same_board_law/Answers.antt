use Rattle.same_boards.proofs.Boards.{same_board, same_accepted}
use Rattle.same_boards.proofs.same_board_law.Goals as goal

pub returns-clause-board : goal.returns-clause-board
returns-clause-board c = same_board

pub returns-clause-accepted : goal.returns-clause-accepted
returns-clause-accepted c = same_accepted
