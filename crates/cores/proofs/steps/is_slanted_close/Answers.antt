use Rattle.std.proofs.Common.{◌*◌, refl, arith}
use Rattle.cores.proofs.Plain.{near_read, wide_same, twice_less_read, less_twice_read, twice_more_read}
use Rattle.cores.proofs.AreaTests.{four, numbers_test}
use Rattle.cores.proofs.steps.is_slanted_close.Goals as goal

pub is_side_close-requires-3-clause-c : goal.is_side_close-requires-3-clause-c
is_side_close-requires-3-clause-c c = near_read 4800000000 14400000000 _ (omega arith) (omega arith) c.requires.small.d0

pub is_side_close-requires-4-clause-c : goal.is_side_close-requires-4-clause-c
is_side_close-requires-4-clause-c c = near_read 4800000000 14400000000 _ (omega arith) (omega arith) c.requires.small.d1

pub returns : goal.returns
returns c =
    let n = c.requires.small in
    four _ _ _ _ _ _ _ _ _ c.any.ensures
    (numbers_test _ (2 * c.args.a) _ _ _ _ _ _ _ refl (wide_same _ n.s0) (twice_less_read _ _ _ n.x0 n.s0 c.twice_less.ensures.value) (less_twice_read _ _ _ n.s0 n.y0 c.less_twice.ensures.value) c.is_side_close.ensures)
    (numbers_test _ (2 * c.args.a) _ _ _ _ _ _ _ refl (wide_same _ n.s1) (less_twice_read _ _ _ n.s1 n.y1 c.less_twice-2.ensures.value) (twice_less_read _ _ _ n.x1 n.s1 c.twice_less-2.ensures.value) c.is_side_close-2.ensures)
    (numbers_test _ (2 * c.args.a) _ _ _ _ _ _ _ refl (wide_same _ n.d0) (twice_less_read _ _ _ n.x0 n.d0 c.twice_less-3.ensures.value) (twice_more_read _ _ _ n.y1 n.d0 c.twice_more.ensures.value) c.is_side_close-3.ensures)
    (numbers_test _ (2 * c.args.a) _ _ _ _ _ _ _ refl (wide_same _ n.d1) (twice_more_read _ _ _ n.y0 n.d1 c.twice_more-2.ensures.value) (twice_less_read _ _ _ n.x1 n.d1 c.twice_less-4.ensures.value) c.is_side_close-4.ensures)
