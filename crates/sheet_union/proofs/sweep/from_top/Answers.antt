use Rattle.std.proofs.Common.{rules, arith}
use Rattle.std.proofs.lemmas.Int.{ints}
use Rattle.plane.specs.Plane.{Bounds}
use Rattle.grid_num.proofs.SortedInts.{sorted_by_int}
use Rattle.sheet_union.proofs.sweep.from_top.Goals as goal

pub returns-clause-sorted : goal.returns-clause-sorted
returns-clause-sorted c = sorted_by_int (λ (b : Bounds). b.y0) _ c.in_ok-sort_by_key.ensures.sorted (λ a r q k. search (rules, arith, ints))
