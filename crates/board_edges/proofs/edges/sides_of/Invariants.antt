use Rattle.std.proofs.Common.{◌≡◌, ◌++◌, drop}
use Rattle.board_language.specs.Edges.{sides_to, sides_of}
use Rattle.board_edges.proofs.edges.sides_of.Given as goal

abbrev pub invariant-each : goal.invariant-each
invariant-each l = l.sides.items ++ sides_to l.z (drop l.i l.corners) ≡ sides_of l.corners
