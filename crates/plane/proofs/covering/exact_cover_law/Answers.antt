use Rattle.plane.proofs.Repeats.{exact_cover_law, strict_exact_cover_law}
use Rattle.plane.proofs.covering.exact_cover_law.Goals as goal

pub returns : goal.returns
returns c = record { points = exact_cover_law; inner = strict_exact_cover_law }
