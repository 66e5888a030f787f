use Rattle.hulls.proofs.Pads.{one_hull_law, centre_law}
use Rattle.hulls.proofs.pad_law.Goals as goal

pub returns : goal.returns
returns c = record { one = one_hull_law; centre = centre_law }
