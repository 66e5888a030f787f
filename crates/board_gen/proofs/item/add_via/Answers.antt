use Rattle.board_gen.proofs.Joined.{added6}
use Rattle.board_gen.proofs.item.add_via.Goals as goal

pub returns : goal.returns
returns c =
    added6 _ _ _ _ _ _ _ _ _ _ _ _ _ c.in_ok-add.ensures c.in_ok-add_point.ensures c.in_ok-add-2.ensures c.in_ok-add-3.ensures c.in_ok-add-4.ensures
    c.in_ok-add_stamp.ensures
