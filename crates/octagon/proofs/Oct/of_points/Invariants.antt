use Rattle.std.proofs.Common.{ℕ, ◌<◌}
use Rattle.std.specs.Prelude.{slice_index_or}
use Rattle.std.specs.List.{All}
use Rattle.plane.specs.Plane.{Bounds, Within, IsOct}
use Rattle.grid_num.specs.declared.Point.{Point}
use Rattle.plane.proofs.Inside.{IsInside}
use Rattle.octagon.proofs.Oct.of_points.Given as goal

abbrev pub invariant-points : goal.invariant-points
invariant-points l = record {
  seen : (k : ℕ) (d : Point) → k < l.p-index → Within l.hull (slice_index_or l.points k d).x (slice_index_or l.points k d).y;
  least : (b : Bounds) → All (λ q. Within b q.x q.y) l.points → IsInside l.hull b;
  oct : IsOct l.hull;
}
