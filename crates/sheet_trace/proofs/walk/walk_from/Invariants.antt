use Rattle.std.proofs.Common.{◌≡◌, length}
use Rattle.sheet_trace.specs.Edges.{edges_in}
use Rattle.sheet_trace.specs.Inner.Walked.{IsWalking}
use Rattle.sheet_trace.proofs.walk.walk_from.Given as goal

-- the walk so far, and the flags of its edges
abbrev pub invariant-each : goal.invariant-each
invariant-each l = record {
  walking : IsWalking l.edges l.fn.used l.first l._step l.place (edges_in l.walk.items) l.used;
  size : length l.used ≡ length l.edges;
}
