use Rattle.run_rules.proofs.Wanteds.{wanted_law}
use Rattle.run_rules.proofs.wanted_law.Goals as goal

pub returns : goal.returns
returns c = wanted_law
