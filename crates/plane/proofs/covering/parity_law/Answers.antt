use Rattle.plane.proofs.CoverLaws.{counts_law, turned_law}
use Rattle.plane.proofs.covering.parity_law.Goals as goal

pub returns : goal.returns
returns c = record { counts = counts_law; turned = turned_law }
