use Rattle.std.proofs.Common.{◌≡◌, ◌++◌, drop}
use Rattle.sheet_trace.specs.Edges.{edge_of, edges_in}
use Rattle.sheet_trace.specs.Inner.Visits.{bends_after}
use Rattle.sheet_trace.proofs.contour.bends.Given as goal

-- those so far and those to come are all
abbrev pub invariant-each : goal.invariant-each
invariant-each l = l.corners.items ++ bends_after (edge_of l.comes) (edges_in (drop l.goes-index l.walk)) ≡ bends_after (edge_of l.fn.last) (edges_in l.walk)
