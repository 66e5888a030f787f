use Rattle.std.proofs.Common.{take}
use Rattle.slabs.specs.Slabs.{AreCuts}
use Rattle.outline_slab.specs.Cuts.{all_edges}
use Rattle.outline_slab.proofs.cuts.cuts_of.Given as goal

abbrev pub invariant-each : goal.invariant-each
invariant-each l = AreCuts l.rows (take l.i (all_edges l.sides)) (all_edges l.cuts.items)
