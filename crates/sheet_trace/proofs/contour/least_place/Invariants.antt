use Rattle.std.proofs.Common.{◌≡◌, ◌≤◌, ◌-◌, drop, take, length}
use Rattle.rings.specs.Inner.Tracing.{least_from}
use Rattle.sheet_trace.specs.Inner.Visits.{begun_at}
use Rattle.sheet_trace.proofs.contour.least_place.Given as goal

-- the least so far, from the last place on
abbrev pub invariant-each : goal.invariant-each
invariant-each l = record {
  least : begun_at l.corners l.best ≡ least_from (take (length l.corners - l.step) l.corners) (drop (length l.corners - l.step) l.corners);
  within : l.best ≤ length l.corners - 1;
}
