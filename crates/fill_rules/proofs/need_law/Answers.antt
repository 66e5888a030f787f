use Rattle.fill_rules.proofs.InWords.{units_law, item_need_law, zone_need_law}
use Rattle.fill_rules.proofs.Anchors.{foreign_law}
use Rattle.fill_rules.proofs.need_law.Goals as goal

pub returns-clause-foreign : goal.returns-clause-foreign
returns-clause-foreign c = foreign_law

pub returns-clause-units : goal.returns-clause-units
returns-clause-units c = units_law

pub returns-clause-item : goal.returns-clause-item
returns-clause-item c = item_need_law

pub returns-clause-zone : goal.returns-clause-zone
returns-clause-zone c = zone_need_law
