use Rattle.std.proofs.Common.{rules}
use Rattle.sheet_trace.proofs.Ranked.{sorted_by_compare, loops_in_order}
use Rattle.sheet_trace.proofs.order.in_order.Goals as goal

pub returns-clause-order : goal.returns-clause-order
returns-clause-order c = sorted_by_compare _ c.in_ok-sort_by.ensures.sorted (λ a r q k. search rules)

pub returns-clause-loops : goal.returns-clause-loops
returns-clause-loops c = loops_in_order _ _ c.in_ok-sort_by.ensures.permutation (sorted_by_compare _ c.in_ok-sort_by.ensures.sorted (λ a r q k. search rules))
