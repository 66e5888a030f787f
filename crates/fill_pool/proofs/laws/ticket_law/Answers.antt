use Rattle.fill_pool.proofs.Ranks.{ticket_fill}
use Rattle.fill_pool.proofs.laws.ticket_law.Goals as goal

pub returns : goal.returns
returns c = ticket_fill c.ranking_law.ensures
