use Rattle.outlines.proofs.Covered.{all_covered}
use Rattle.outlines.proofs.covered_law.Goals as goal

pub returns : goal.returns
returns c = all_covered c.cover_law.ensures c.cover_law-2.ensures.union
