use Rattle.edit_changes.proofs.SameBut.{priority_set, clearance_set}
use Rattle.edit_changes.proofs.setting_law.Goals as goal

pub returns-clause-priority : goal.returns-clause-priority
returns-clause-priority c = priority_set

pub returns-clause-clearance : goal.returns-clause-clearance
returns-clause-clearance c = clearance_set
