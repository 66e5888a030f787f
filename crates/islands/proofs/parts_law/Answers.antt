use Rattle.islands.proofs.PartLaws.{parts_same, parts_one}
use Rattle.islands.proofs.parts_law.Goals as goal

pub returns-clause-same : goal.returns-clause-same
returns-clause-same c = parts_same

pub returns-clause-one : goal.returns-clause-one
returns-clause-one c = parts_one
