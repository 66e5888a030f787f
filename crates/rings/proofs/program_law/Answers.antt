use Rattle.rings.proofs.Laws.{walks_law, slits_walks_law, loops_by_law, slits_by_law, drawn_rings_law, rings_by_law}
use Rattle.rings.proofs.program_law.Goals as goal

pub returns : goal.returns
returns c = record { boundary = walks_law; slits = slits_walks_law; loops = loops_by_law; cuts = slits_by_law; drawn = drawn_rings_law; rings = rings_by_law }
