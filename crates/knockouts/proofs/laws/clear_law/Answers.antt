use Rattle.knockouts.proofs.Clearing.{clear_law}
use Rattle.knockouts.proofs.laws.clear_law.Goals as goal

pub returns : goal.returns
returns c = clear_law
