use Rattle.board_facts.proofs.Accepted.{facts}
use Rattle.board_facts.proofs.facts_law.Goals as goal

pub returns : goal.returns
returns c = facts
