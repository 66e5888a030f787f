use Rattle.std.proofs.Common.{◌≡◌, ◌++◌, drop}
use Rattle.sheet_trace.specs.Edges.{edge_ends}
use Rattle.sheet_trace.proofs.sides.ends_of.Given as goal

-- those so far and those to come are all
abbrev pub invariant-each : goal.invariant-each
invariant-each l = l.ends.items ++ edge_ends (drop l.edge-index l.edges) ≡ edge_ends l.edges
