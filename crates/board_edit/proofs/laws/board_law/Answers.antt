use Rattle.board_edit.proofs.Boards.{board_so}
use Rattle.board_edit.proofs.laws.board_law.Goals as goal

pub returns : goal.returns
returns c = board_so
