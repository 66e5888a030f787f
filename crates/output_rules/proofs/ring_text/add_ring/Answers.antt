use Rattle.std.proofs.Common.{ap, ◌∙◌, ◌++◌}
use Rattle.std.specs.List.{flat_map}
use Rattle.output_rules.specs.Rings.{corner_text}
use Rattle.output_rules.proofs.Joined.{added5}
use Rattle.output_rules.proofs.ring_text.add_ring.Goals as goal

pub returns : goal.returns
returns c =
    added5 _ _ _ _ _ _ _ _ _ _ _ c.in_ok-add.ensures c.in_ok-add_quoted.ensures c.in_ok-add-2.ensures
    (c.in_ok-add_corners.ensures ∙ ap (λ corners. c.add-2.new.out.items ++ flat_map corner_text corners) (c.deref.ensures.value ∙ c.ring.view_is)) c.in_ok-add-3.ensures
