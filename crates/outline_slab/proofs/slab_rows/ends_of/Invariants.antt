use Rattle.std.proofs.Common.{take}
use Rattle.std.specs.List.{All}
use Rattle.outline_slab.specs.Cuts.{all_edges, IsInRows}
use Rattle.outline_slab.proofs.slab_rows.ends_of.Given as goal

abbrev pub invariant-each : goal.invariant-each
invariant-each l = All (IsInRows l.rows.items) (take l.side-index (all_edges l.sides))
