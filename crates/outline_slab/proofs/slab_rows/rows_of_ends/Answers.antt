use Rattle.std.proofs.Common.{rules, arith}
use Rattle.std.specs.Prelude.{ℤ}
use Rattle.std.proofs.lemmas.Int.{ints}
use Rattle.outline_slab.specs.Cuts.{all_edges}
use Rattle.outline_slab.proofs.Rising.{rising_from}
use Rattle.outline_slab.proofs.Sides.{every_permuted}
use Rattle.grid_num.proofs.SortedInts.{sorted_by_int}
use Rattle.outline_slab.proofs.slab_rows.rows_of_ends.Goals as goal

pub returns : goal.returns
returns c = record {
  rising = rising_from c.sort_by_key.new.self.items (sorted_by_int (λ (z : ℤ). z) _ c.in_ok-sort_by_key.ensures.sorted (λ a r q k. search (rules, arith, ints)));
  every = every_permuted (all_edges c.args.sides.now) c.in_ok-rows.rows.items c.sort_by_key.new.self.items c.in_ok-sort_by_key.ensures.permutation c.in_ok-rows.ensures;
}
