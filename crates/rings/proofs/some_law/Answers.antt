use Rattle.rings.proofs.Laws.{some_loops_law, some_slits_law, some_rings_law}
use Rattle.rings.proofs.some_law.Goals as goal

pub returns : goal.returns
returns c = record { loops = some_loops_law; slits = some_slits_law; rings = some_rings_law }
