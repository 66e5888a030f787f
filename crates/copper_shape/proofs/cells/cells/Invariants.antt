use Rattle.std.proofs.Common.{◌≡◌, ◌++◌, drop}
use Rattle.hulls.specs.Cells.{points_round_all}
use Rattle.copper_shape.proofs.cells.cells.Given as goal

abbrev pub invariant-each : goal.invariant-each
invariant-each l = l.cells.items ++ points_round_all l.n (drop l.place-index l.places) ≡ points_round_all l.n l.places
