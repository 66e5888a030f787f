use Rattle.std.proofs.Common.{take}
use Rattle.grid_sets.specs.Points.{HasPoint}
use Rattle.scan_rows.proofs.count.has_point.Given as goal

abbrev pub invariant-octs : goal.invariant-octs
invariant-octs l = HasPoint (take l.oct-index l.octs) l.p.x l.p.y → ⊥
