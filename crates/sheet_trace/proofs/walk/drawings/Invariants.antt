use Rattle.std.proofs.Common.{◌≡◌, ◌≤◌, length}
use Rattle.std.specs.Prelude.{map}
use Rattle.rings.specs.Inner.Tracing.{walks_of}
use Rattle.sheet_trace.specs.Edges.{edges_in}
use Rattle.sheet_trace.specs.Inner.Order.{loops_in}
use Rattle.sheet_trace.specs.Inner.Walked.{loop_along, drawn_from}
use Rattle.sheet_trace.proofs.walk.drawings.Given as goal

-- those so far and those to come are all
abbrev pub invariant-each : goal.invariant-each
invariant-each l = record {
  all : drawn_from (edges_in l.edges) l.first l.used (loops_in l.drawings.items) ≡ map loop_along (walks_of (length l.edges) (edges_in l.edges) (edges_in l.edges));
  few : length l.drawings.items ≤ l.first;
  size : length l.used ≡ length l.edges;
}
