use Rattle.board_model.proofs.OneStamp.{stamps_are}
use Rattle.board_model.proofs.laws.stamp_law.Goals as goal

pub returns : goal.returns
returns c = stamps_are
