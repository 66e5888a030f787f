use Rattle.components.proofs.Meets.{meets}
use Rattle.components.proofs.Pieces.{kept_meets}
use Rattle.components.proofs.meets_law.Goals as goal

pub returns-clause-allowed : goal.returns-clause-allowed
returns-clause-allowed c = meets

pub returns-clause-kept : goal.returns-clause-kept
returns-clause-kept c = kept_meets
