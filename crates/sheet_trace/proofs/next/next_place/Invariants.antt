use Rattle.std.proofs.Common.{◌<◌, length}
use Rattle.sheet_trace.specs.Next.{IsBestBefore}
use Rattle.sheet_trace.proofs.next.next_place.Given as goal

-- the best so far
abbrev pub invariant-each : goal.invariant-each
invariant-each l = record {
  best : IsBestBefore l.edges l.edge l.place l.best;
  within : l.best < length l.edges;
}
