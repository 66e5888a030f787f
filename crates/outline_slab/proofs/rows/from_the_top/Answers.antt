use Rattle.std.proofs.Common.{rules, arith}
use Rattle.std.proofs.lemmas.Int.{ints}
use Rattle.outline_slab.specs.declared.rows.Row.{Row}
use Rattle.grid_num.proofs.SortedInts.{sorted_by_int}
use Rattle.outline_slab.proofs.LeastPair.{sorted_rows}
use Rattle.outline_slab.proofs.rows.from_the_top.Goals as goal

pub returns : goal.returns
returns c =
    sorted_rows c.args.corners.now c.in_ok-rows.rows.items c.sort_by_key.new.self.items c.in_ok-rows.ensures c.in_ok-sort_by_key.ensures.permutation
    (sorted_by_int (λ (s : Row). s.top) _ c.in_ok-sort_by_key.ensures.sorted (λ a r q k. search (rules, arith, ints)))
