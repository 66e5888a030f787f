use Rattle.std.proofs.Common.{◌≡◌, drop}
use Rattle.rings.specs.Inner.Tracing.{is_less_list}
use Rattle.sheet_trace.specs.Inner.Visits.{begun_at}
use Rattle.sheet_trace.proofs.contour.is_less_from.Given as goal

-- the corners so far are the same, and what is left decides
abbrev pub invariant-each : goal.invariant-each
invariant-each l =
    is_less_list (drop l.step (begun_at l.corners l.one)) (drop l.step (begun_at l.corners l.other)) ≡ is_less_list (begun_at l.corners l.one) (begun_at l.corners l.other)
