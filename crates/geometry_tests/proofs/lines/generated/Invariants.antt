use Rattle.std.proofs.Common.{◌≡◌, length}
use Rattle.std.specs.List.{All}
use Rattle.ratsnest.specs.Ratsnest.{IsNearby}
use Rattle.geometry_tests.proofs.lines.generated.Given as goal

abbrev pub invariant-each : goal.invariant-each
invariant-each l = record {
  near : All IsNearby l.anchors.items;
  count : length l.anchors.items ≡ l.i;
}
