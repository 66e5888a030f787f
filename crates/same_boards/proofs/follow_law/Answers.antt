use Rattle.same_boards.proofs.Fills.{follow_law, carry_law}
use Rattle.same_boards.proofs.follow_law.Goals as goal

pub returns-clause-made : goal.returns-clause-made
returns-clause-made c = follow_law

pub returns-clause-fill : goal.returns-clause-fill
returns-clause-fill c = carry_law
