use Rattle.edit_changes.proofs.SameBut.{added_track, added_via}
use Rattle.edit_changes.proofs.added_law.Goals as goal

pub returns-clause-track : goal.returns-clause-track
returns-clause-track c = added_track

pub returns-clause-via : goal.returns-clause-via
returns-clause-via c = added_via
