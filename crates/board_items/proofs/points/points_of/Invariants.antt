use Rattle.std.proofs.Common.{◌≡◌, ◌++◌, map, drop, Some}
use Rattle.std.specs.List.{All}
use Rattle.grid_num.specs.Length.{IsInRange}
use Rattle.board_text.specs.Items.{point_at}
use Rattle.board_items.proofs.points.points_of.Given as goal

abbrev pub invariant-each : goal.invariant-each
invariant-each l = record {
  value : l.points.items ++ map (λ p. point_at p.bytes (Some p.item)) (drop l.list-index l.lists) ≡ map (λ p. point_at p.bytes (Some p.item)) l.lists;
  range : All (λ p. IsInRange p.x × IsInRange p.y) l.points.items;
}
