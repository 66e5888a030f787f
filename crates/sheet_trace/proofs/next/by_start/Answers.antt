use Rattle.std.proofs.Common.{rules, arith}
use Rattle.std.proofs.lemmas.Int.{ints}
use Rattle.sheet_trace.specs.declared.edge.BoundaryEdge.{BoundaryEdge}
use Rattle.grid_num.proofs.SortedInts.{sorted_by_ints}
use Rattle.sheet_trace.proofs.next.by_start.Goals as goal

pub returns-clause-order : goal.returns-clause-order
returns-clause-order c =
    sorted_by_ints (λ (e : BoundaryEdge). e.start.y) (λ (e : BoundaryEdge). e.start.x) _ c.in_ok-sort_by_key.ensures.sorted (λ a r q k. search (rules, arith, ints))
