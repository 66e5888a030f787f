use Rattle.std.proofs.Common.{rules, arith}
use Rattle.std.specs.Prelude.{◌+ℤ◌}
use Rattle.std.proofs.lemmas.Int.{ints}
use Rattle.strips.specs.declared.Strip.{Strip}
use Rattle.grid_num.proofs.SortedInts.{sorted_by_int}
use Rattle.sheet_union.proofs.merge.from_left.Goals as goal

pub returns-clause-sorted : goal.returns-clause-sorted
returns-clause-sorted c =
    sorted_by_int (λ (s : Strip). s.left +ℤ s.left_end) _ c.in_ok-sort_by_key.ensures.sorted (λ a r q k. search (rules, arith, ints))
