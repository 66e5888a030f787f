use Rattle.std.specs.List.{All}
use Rattle.strips.specs.Strips.{HasInside}
use Rattle.geometry_tests.proofs.shapes.octagons.Given as goal

abbrev pub invariant-each : goal.invariant-each
invariant-each l = All (λ o. HasInside o) l.octs.items
