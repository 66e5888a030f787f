use Rattle.std.proofs.Common.{◌∙◌, ap, ◌++◌}
use Rattle.output_rules.proofs.Joined.{added8}
use Rattle.output_rules.proofs.report.add_task.Goals as goal

pub returns : goal.returns
returns c =
    added8 _ _ _ _ _ _ _ _ _ _ _ _ _ _ _ _ _ c.in_ok-add_numbered.ensures c.in_ok-add_numbered-2.ensures c.in_ok-add.ensures
    (c.in_ok-add-2.ensures ∙ ap (λ t. c.add.new.out.items ++ t) c.bytes.ensures) c.in_ok-add_numbered-3.ensures c.in_ok-add_numbered-4.ensures c.in_ok-add_numbered-5.ensures c.in_ok-add-3.ensures
