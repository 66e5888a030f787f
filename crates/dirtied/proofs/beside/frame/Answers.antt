use Rattle.knockouts.proofs.Near.{frame_is}
use Rattle.dirtied.proofs.beside.frame.Goals as goal

pub returns-clause-value : goal.returns-clause-value
returns-clause-value c = frame_is c.args.zone.now.outline c.frame.result c.vertices.ensures.simple c.frame.ensures.holds c.frame.ensures.least c.frame.ensures.oct
