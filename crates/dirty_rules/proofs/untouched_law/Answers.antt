use Rattle.dirty_rules.proofs.ZoneEdits.{clearance_law, priority_law}
use Rattle.dirty_rules.proofs.untouched_law.Goals as goal

pub returns : goal.returns
returns c = record { clearance = clearance_law; priority = priority_law }
