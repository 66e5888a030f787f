use Rattle.plane.proofs.Repeats.{repeats_law, strict_repeats_law}
use Rattle.plane.proofs.covering.repeats_law.Goals as goal

pub returns : goal.returns
returns c = record { points = repeats_law; inner = strict_repeats_law }
