use Rattle.std.specs.List.{All}
use Rattle.islands.specs.Inside.{IsEdgeInRoom}
use Rattle.geometry_table.proofs.edge_rows.near_edges.Given as goal

abbrev pub invariant-each : goal.invariant-each
invariant-each l = All IsEdgeInRoom l.near.items
