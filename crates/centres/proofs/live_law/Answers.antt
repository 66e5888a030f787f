use Rattle.centres.proofs.Spokes.{live_law, spoke_law, entered_law}
use Rattle.centres.proofs.live_law.Goals as goal

pub returns-clause-live : goal.returns-clause-live
returns-clause-live c = live_law

pub returns-clause-spoke : goal.returns-clause-spoke
returns-clause-spoke c = spoke_law

pub returns-clause-entered : goal.returns-clause-entered
returns-clause-entered c = entered_law
