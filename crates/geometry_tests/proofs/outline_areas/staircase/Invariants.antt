use Rattle.std.specs.List.{All}
use Rattle.outline_slab.specs.Rules.{IsInSpan}
use Rattle.geometry_tests.proofs.outline_areas.staircase.Given as goal

abbrev pub invariant-step : goal.invariant-step
invariant-step l = All IsInSpan l.points.items
