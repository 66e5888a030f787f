use Rattle.std.proofs.Common.{rules, arith}
use Rattle.std.proofs.lemmas.Int.{ints}
use Rattle.grid_num.specs.declared.Point.{Point}
use Rattle.grid_num.proofs.SortedInts.{sorted_by_ints}
use Rattle.sheet_trace.proofs.sides.corners_of.Goals as goal

pub returns-clause-order : goal.returns-clause-order
returns-clause-order c =
    sorted_by_ints (λ (p : Point). p.y) (λ (p : Point). p.x) _ c.in_ok-sort_by_key.ensures.sorted (λ a r q k. search (rules, arith, ints))
