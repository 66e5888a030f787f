use Rattle.board_gen.proofs.Joined.{added2}
use Rattle.board_gen.proofs.board.add_zones.Goals as goal

pub returns : goal.returns
returns c = added2 _ _ _ _ _ c.in_ok-add_zone.ensures c.in_ok-add_zone-2.ensures
