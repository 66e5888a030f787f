use Rattle.fill_rules.proofs.Kept.{copper_kept, edge_kept, arc_kept, zone_kept}
use Rattle.fill_rules.proofs.clearance_law.Goals as goal

pub returns-clause-copper : goal.returns-clause-copper
returns-clause-copper c = copper_kept

pub returns-clause-edge : goal.returns-clause-edge
returns-clause-edge c = edge_kept

pub returns-clause-arc : goal.returns-clause-arc
returns-clause-arc c = arc_kept

pub returns-clause-zones : goal.returns-clause-zones
returns-clause-zones c = zone_kept
