use Rattle.std.specs.List.{All}
use Rattle.islands.specs.Held.{IsAnchorInRoom}
use Rattle.geometry_table.proofs.part_rows.shapes.Given as goal

abbrev pub invariant-each : goal.invariant-each
invariant-each l = All IsAnchorInRoom l.shapes.items
