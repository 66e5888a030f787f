use Rattle.gen_facts.proofs.Sound.{made_law}
use Rattle.gen_facts.proofs.made_law.Goals as goal

pub returns : goal.returns
returns c = made_law
