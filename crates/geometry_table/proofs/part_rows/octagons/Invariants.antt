use Rattle.std.specs.List.{All}
use Rattle.octagon.specs.Room.{IsAround}
use Rattle.geometry_table.proofs.part_rows.octagons.Given as goal

abbrev pub invariant-each : goal.invariant-each
invariant-each l = All (IsAround 300000000) l.octs.items
