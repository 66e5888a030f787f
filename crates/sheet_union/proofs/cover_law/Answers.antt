use Rattle.sheet_union.proofs.Exists.{cover_law}
use Rattle.sheet_union.proofs.cover_law.Goals as goal

pub returns : goal.returns
returns c = cover_law
