use Rattle.std.specs.List.{All}
use Rattle.outline_slab.specs.Rules.{IsInSpan}
use Rattle.geometry_tests.proofs.outline_areas.comb.Given as goal

abbrev pub invariant-tooth : goal.invariant-tooth
invariant-tooth l = All IsInSpan l.points.items
