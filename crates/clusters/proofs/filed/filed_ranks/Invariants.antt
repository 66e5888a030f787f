use Rattle.std.proofs.Common.{◌≡◌, ◌++◌, map, length, drop}
use Rattle.fill_rules.specs.Tasks.{task_at, tasks_from}
use Rattle.clusters.specs.Filed.{AreRanks}
use Rattle.clusters.proofs.filed.filed_ranks.Given as goal

abbrev pub invariant-each : goal.invariant-each
invariant-each l = record {
  order : map (task_at l.board.board) l.ranks.items ++ tasks_from (length l.board.board.layers) l.zone (drop l.zone l.board.board.zones)
      ≡ tasks_from (length l.board.board.layers) 0 l.board.board.zones;
  each : AreRanks l.board.board l.ranks.items;
}
