use Rattle.std.proofs.Common.{◌∙◌, ap, ◌++◌}
use Rattle.board_gen.proofs.Joined.{added3}
use Rattle.board_gen.proofs.add.add_stamp.Goals as goal

pub returns : goal.returns
returns c =
    added3 _ _ _ _ _ _ _ c.in_ok-add.ensures
    (c.in_ok-add-2.ensures ∙ ap (λ t. c.add.new.out.items ++ t) (c.as_bytes.ensures.value ∙ c.format.ensures.text)) c.in_ok-add-3.ensures
