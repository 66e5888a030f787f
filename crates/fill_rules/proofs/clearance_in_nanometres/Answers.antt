use Rattle.fill_rules.proofs.Clearance.{core_clear, copper_clear, edge_clear, arc_clear, zones_clear}
use Rattle.fill_rules.proofs.clearance_in_nanometres.Goals as goal

pub returns-clause-core : goal.returns-clause-core
returns-clause-core c = core_clear

pub returns-clause-copper : goal.returns-clause-copper
returns-clause-copper c = copper_clear

pub returns-clause-edge : goal.returns-clause-edge
returns-clause-edge c = edge_clear

pub returns-clause-arc : goal.returns-clause-arc
returns-clause-arc c = arc_clear

pub returns-clause-zones : goal.returns-clause-zones
returns-clause-zones c = zones_clear
