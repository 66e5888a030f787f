use Rattle.slabs.proofs.Amid.{amid_law}
use Rattle.slabs.proofs.amid_law.Goals as goal

pub returns : goal.returns
returns c = amid_law
