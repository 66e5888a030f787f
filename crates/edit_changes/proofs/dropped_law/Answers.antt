use Rattle.edit_changes.proofs.SameBut.{dropped_track, dropped_via}
use Rattle.edit_changes.proofs.dropped_law.Goals as goal

pub returns-clause-track : goal.returns-clause-track
returns-clause-track c = dropped_track

pub returns-clause-via : goal.returns-clause-via
returns-clause-via c = dropped_via
