use Rattle.fill_rules.proofs.InWords.{spokes_law, gap_law}
use Rattle.fill_rules.proofs.spokes_law.Goals as goal

pub returns-clause-spokes : goal.returns-clause-spokes
returns-clause-spokes c = spokes_law

pub returns-clause-gap : goal.returns-clause-gap
returns-clause-gap c = gap_law
