use Rattle.centres.proofs.Home.{home_law, lies_in_law}
use Rattle.centres.proofs.home_law.Goals as goal

pub returns-clause-home : goal.returns-clause-home
returns-clause-home c = home_law

pub returns-clause-bounds : goal.returns-clause-bounds
returns-clause-bounds c = lies_in_law
