use Rattle.any_strips.proofs.Laws.{some_strips_law, any_strips_law, any_outlines_law}
use Rattle.any_strips.proofs.any_law.Goals as goal

pub returns : goal.returns
returns c = record { some = some_strips_law; any = any_strips_law; outlines = any_outlines_law }
