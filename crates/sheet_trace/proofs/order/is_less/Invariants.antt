use Rattle.std.proofs.Common.{◌≡◌, ◌≤◌, drop, length}
use Rattle.rings.specs.Inner.Tracing.{is_less_list}
use Rattle.sheet_trace.proofs.order.is_less.Given as goal

-- the corners so far are the same, and what is left decides
abbrev pub invariant-each : goal.invariant-each
invariant-each l = record {
  rest : is_less_list (drop l.i l.one) (drop l.i l.other) ≡ is_less_list l.one l.other;
  within : l.i ≤ length l.other;
  far : l.i ≤ length l.one;
}
