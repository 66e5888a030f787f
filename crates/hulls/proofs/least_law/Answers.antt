use Rattle.hulls.proofs.Around.{least_law, one_least_law}
use Rattle.hulls.proofs.least_law.Goals as goal

pub returns : goal.returns
returns c = record { least = least_law; one = one_least_law }
