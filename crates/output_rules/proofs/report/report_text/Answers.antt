use Rattle.std.proofs.Common.{◌∙◌, ap, ◌++◌, []}
use Rattle.std.specs.List.{flat_map}
use lib.Chars.{codes}
use Rattle.output_rules.specs.Report.{numbered, task_text, report_text}
use Rattle.output_rules.proofs.Joined.{added5}
use Rattle.output_rules.proofs.report.report_text.Goals as goal

pub returns : goal.returns
unfolding report_text
returns c =
    added5 [] _ _ _ _ _ _ _ _ _ _ (c.in_ok-add_tasks.ensures ∙ ap (λ o. o ++ flat_map task_text c.args.tasks.now) c.new-out.ensures.items)
    c.in_ok-add_nodes.ensures c.in_ok-add_nets.ensures
    (c.in_ok-add_numbered.ensures ∙ ap (λ u. c.add_nets.new.out.items ++ numbered (codes "unjoined ") u) c.unjoined.ensures) c.in_ok-add.ensures
