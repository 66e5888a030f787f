use Rattle.std.proofs.Common.{rules, arith}
use Rattle.std.proofs.lemmas.Int.{ints}
use Rattle.grid_num.proofs.SortedInts.{sorted_by_int}
use Rattle.scan_runs.specs.Inner.Walk.{begin_key}
use Rattle.scan_runs.proofs.Walk.{from_left_of}
use Rattle.scan_runs.proofs.merge.from_left.Goals as goal

pub returns-clause-sorted : goal.returns-clause-sorted
returns-clause-sorted c =
    from_left_of _ (sorted_by_int (λ s. begin_key s) _ c.sort_unstable_by_key.ensures.sorted (λ a r q k. search (rules, arith, ints)))
