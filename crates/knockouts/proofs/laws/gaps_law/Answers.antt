use Rattle.knockouts.proofs.Gaps.{gaps_law, one_gap_law}
use Rattle.knockouts.proofs.laws.gaps_law.Goals as goal

pub returns-clause-spokes : goal.returns-clause-spokes
returns-clause-spokes c = gaps_law

pub returns-clause-one : goal.returns-clause-one
returns-clause-one c = one_gap_law
