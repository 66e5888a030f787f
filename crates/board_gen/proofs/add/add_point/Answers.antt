use Rattle.board_gen.proofs.Joined.{added3}
use Rattle.board_gen.proofs.add.add_point.Goals as goal

pub returns : goal.returns
returns c = added3 _ _ _ _ _ _ _ c.in_ok-add_length.ensures c.in_ok-add.ensures c.in_ok-add_length-2.ensures
