use Rattle.std.proofs.Common.{◌≡◌, ◌++◌, map}
use Rattle.fill_rules.specs.Tasks.{task_at, layers_below}
use Rattle.clusters.specs.Filed.{AreRanks}
use Rattle.clusters.proofs.filed.with_zone.Given as goal

abbrev pub invariant-each : goal.invariant-each
invariant-each l = record {
  order : map (task_at l.board.board) l.all.items ≡ map (task_at l.board.board) l.fn.ranks.items ++ map (λ k. record { zone = l.zone; layer = k }) (layers_below l.layers l.layer);
  each : AreRanks l.board.board l.all.items;
}
