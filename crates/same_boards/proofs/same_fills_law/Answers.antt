use Rattle.same_boards.proofs.Fills.{same_ranks, same_fills}
use Rattle.same_boards.proofs.same_fills_law.Goals as goal

pub returns-clause-ranks : goal.returns-clause-ranks
returns-clause-ranks c = same_ranks

pub returns-clause-fills : goal.returns-clause-fills
returns-clause-fills c = same_fills
