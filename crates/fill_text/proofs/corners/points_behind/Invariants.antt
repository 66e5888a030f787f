use Rattle.std.proofs.Common.{◌≡◌, ◌++◌, map, drop, Some}
use Rattle.sexpr_text.specs.Items.{children_of}
use Rattle.board_text.specs.Items.{point_at}
use Rattle.board_text.specs.Lists.{behind_head}
use Rattle.rings.specs.Rings.{IsRingInRange}
use Rattle.fill_text.proofs.corners.points_behind.Given as goal

abbrev pub invariant-each : goal.invariant-each
invariant-each l = record {
  value : l.corners.items ++ map (λ corner. point_at l.points.bytes (Some corner)) (drop l.place (children_of l.points.item)) ≡ map (λ corner. point_at l.points.bytes (Some corner)) (behind_head l.points.item);
  range : IsRingInRange l.corners.items;
}
