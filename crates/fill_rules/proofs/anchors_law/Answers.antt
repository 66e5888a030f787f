use Rattle.fill_rules.proofs.Anchors.{anchors_law}
use Rattle.fill_rules.proofs.anchors_law.Goals as goal

pub returns : goal.returns
returns c = anchors_law
