use Rattle.std.proofs.Common.{◌≤◌, length}
use Rattle.fill_rules.specs.Tasks.{ranked}
use Rattle.clusters.proofs.Ranks.{IsTableFrom}
use Rattle.clusters.proofs.filed.rank_table.Given as goal

abbrev pub invariant-each : goal.invariant-each
invariant-each l = record {
  table : IsTableFrom (ranked l.board.board) (length l.board.board.zones) l.rank l.table.items;
  within : l.rank ≤ length l.fills;
}

abbrev pub decreases-each : goal.decreases-each
decreases-each l = l.rank
