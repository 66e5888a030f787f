use Rattle.sheet_trace.proofs.Walked.{drawn_is}
use Rattle.sheet_trace.proofs.walk.drawn.Goals as goal

pub returns : goal.returns
returns c = drawn_is _ _ _ c.in_ok-corners.ensures c.is_hole.ensures
