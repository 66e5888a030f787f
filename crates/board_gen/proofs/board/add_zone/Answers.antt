use Rattle.board_gen.proofs.Joined.{added3}
use Rattle.board_gen.proofs.board.add_zone.Goals as goal

pub returns : goal.returns
returns c = added3 _ _ _ _ _ _ _ c.in_ok-add.ensures c.in_ok-add_settings.ensures c.in_ok-add_corners.ensures
