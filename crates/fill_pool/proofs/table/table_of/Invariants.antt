use Rattle.std.proofs.Common.{map}
use Rattle.fills.specs.Above.{AreReaching}
use Rattle.fill_pool.specs.Inner.Tables.{AreLists}
use Rattle.fill_pool.proofs.table.table_of.Given as goal

abbrev pub invariant-each : goal.invariant-each
invariant-each l = AreLists (AreReaching l.board.board) l.i (map (λ row. row.items) l.table.items)
