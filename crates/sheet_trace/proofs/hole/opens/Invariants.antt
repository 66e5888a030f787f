use Rattle.std.proofs.Common.{◌≡◌, drop}
use Rattle.rings.specs.Inner.Tracing.{some_visit}
use Rattle.rings.specs.Walks.{visits_after}
use Rattle.sheet_trace.specs.Edges.{edge_of, edges_in}
use Rattle.sheet_trace.specs.Inner.Turns.{opens_at}
use Rattle.sheet_trace.proofs.hole.opens.Given as goal

-- none so far, and so one of those to come, if any
abbrev pub invariant-each : goal.invariant-each
invariant-each l =
    some_visit (opens_at l.fn.at) (visits_after (edge_of l.comes) (edges_in (drop l.goes-index l.walk))) ≡ some_visit (opens_at l.fn.at) (visits_after (edge_of l.fn.last) (edges_in l.walk))
