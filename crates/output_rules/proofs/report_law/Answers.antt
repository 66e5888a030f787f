use Rattle.output_rules.proofs.Reports.{one_report}
use Rattle.output_rules.proofs.report_law.Goals as goal

pub returns : goal.returns
returns c = one_report
