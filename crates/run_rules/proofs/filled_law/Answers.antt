use Rattle.run_rules.proofs.OneFilled.{one_fills, one_outlines}
use Rattle.run_rules.proofs.filled_law.Goals as goal

pub returns : goal.returns
returns c = record { fills = one_fills; outlines = one_outlines }
