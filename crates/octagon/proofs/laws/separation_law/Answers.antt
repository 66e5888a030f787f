use Rattle.octagon.proofs.Separation.{separation_law, barred_law}
use Rattle.octagon.proofs.laws.separation_law.Goals as goal

pub returns : goal.returns
returns c = record { near = separation_law; barred = barred_law }
