use Rattle.hulls.proofs.Rounding.{floor_law, ceil_law}
use Rattle.hulls.proofs.rounding_law.Goals as goal

pub returns : goal.returns
returns c = record { down = floor_law; up = ceil_law }
