use Rattle.std.specs.List.{All}
use Rattle.outline_slab.specs.Rules.{IsInSpan}
use Rattle.geometry_table.proofs.outlines.points_of.Given as goal

abbrev pub invariant-each : goal.invariant-each
invariant-each l = All IsInSpan l.points.items
