use Rattle.plane.proofs.Units.{finer_bounds_law, finer_cover_law, strict_finer_cover_law, finer_cover_all_law}
use Rattle.plane.proofs.covering.units_law.Goals as goal

pub returns : goal.returns
returns c = record { bounds = finer_bounds_law; chain = finer_cover_law; inner = strict_finer_cover_law; chains = finer_cover_all_law }
