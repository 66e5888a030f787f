use Rattle.std.proofs.Common.{◌∙◌, ap, ◌++◌, []}
use lib.Chars.{codes}
use Rattle.output_rules.specs.Report.{numbered}
use Rattle.output_rules.proofs.Joined.{added6}
use Rattle.output_rules.proofs.report.summary_text.Goals as goal

pub returns : goal.returns
returns c =
    added6 [] _ _ _ _ _ _ _ _ _ _ _ _ (c.in_ok-add_numbered.ensures ∙ ap (λ o. o ++ numbered (codes "items ") c.args.items) c.new-out.ensures.items)
    c.in_ok-add.ensures c.in_ok-add_numbered-2.ensures c.in_ok-add_numbered-3.ensures c.in_ok-add_numbered-4.ensures c.in_ok-add-2.ensures
