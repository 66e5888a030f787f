use Rattle.octagon.proofs.Separation.{meeting_law}
use Rattle.octagon.proofs.laws.meeting_law.Goals as goal

pub returns : goal.returns
returns c = meeting_law
