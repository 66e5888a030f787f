use Rattle.std.proofs.Common.{rules, arith}
use Rattle.std.specs.Prelude.{◌+ℤ◌}
use Rattle.std.proofs.lemmas.Int.{ints}
use Rattle.outline_slab.specs.declared.side.Side.{Side}
use Rattle.outline_slab.proofs.Sides.{ordered_cuts, order_of}
use Rattle.grid_num.proofs.SortedInts.{sorted_by_ints}
use Rattle.outline_slab.proofs.cuts.in_order.Goals as goal

pub returns-clause-cuts : goal.returns-clause-cuts
returns-clause-cuts c = λ rows es a. ordered_cuts rows es c.args.cuts.items c.sort_by_key.new.self.items c.in_ok-sort_by_key.ensures.permutation a

pub returns-clause-order : goal.returns-clause-order
returns-clause-order c =
    order_of c.sort_by_key.new.self.items
    (sorted_by_ints (λ (s : Side). s.start.y) (λ (s : Side). s.start.x +ℤ s.finish.x) _ c.in_ok-sort_by_key.ensures.sorted (λ a r q k. search (rules, arith, ints)))
