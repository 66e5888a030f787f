use Rattle.rings.proofs.Laws.{next_law, slits_next_law, uncut_law}
use Rattle.rings.proofs.next_law.Goals as goal

pub returns : goal.returns
returns c = record { boundary = next_law; slits = slits_next_law; uncut = uncut_law }
