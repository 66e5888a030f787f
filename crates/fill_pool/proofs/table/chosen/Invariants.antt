use Rattle.std.specs.Prelude.{drop}
use Rattle.fill_pool.specs.Inner.Tables.{AreChosen}
use Rattle.fill_pool.proofs.table.chosen.Given as goal

abbrev pub invariant-each : goal.invariant-each
invariant-each l = AreChosen l.board.board l.rank l.ranks l.row.items (drop l.upper-index l.ranks)
