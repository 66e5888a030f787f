use Rattle.fill_rules.proofs.Framed.{covers_in_frame}
use Rattle.fill_rules.proofs.frame_law.Goals as goal

pub returns : goal.returns
returns c = covers_in_frame
