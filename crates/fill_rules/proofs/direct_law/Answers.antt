use Rattle.fill_rules.proofs.Edits.{direct_law}
use Rattle.fill_rules.proofs.ZoneEdits.{settings_law}
use Rattle.fill_rules.proofs.direct_law.Goals as goal

pub returns-clause-copper : goal.returns-clause-copper
returns-clause-copper c = direct_law

pub returns-clause-settings : goal.returns-clause-settings
returns-clause-settings c = settings_law
