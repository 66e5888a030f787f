use Rattle.board_facts.proofs.Stamps.{stamps}
use Rattle.board_facts.proofs.stamps_law.Goals as goal

pub returns : goal.returns
returns c = stamps
