use Rattle.std.proofs.Common.{refl}
use Rattle.cores.proofs.Plain.{wide_same, wide_add, wide_sub}
use Rattle.cores.proofs.AreaTests.{four, numbers_test}
use Rattle.cores.proofs.steps.is_straight_close.Goals as goal

pub returns : goal.returns
returns c =
    let n = c.requires.small in
    four _ _ _ _ _ _ _ _ _ c.any.ensures
    (numbers_test _ c.args.a _ _ _ _ _ _ _ refl (wide_same _ n.x0) (wide_sub _ _ n.s0 n.x0) (wide_sub _ _ n.x0 n.d0) c.is_side_close.ensures)
    (numbers_test _ c.args.a _ _ _ _ _ _ _ refl (wide_same _ n.x1) (wide_sub _ _ n.x1 n.d1) (wide_sub _ _ n.s1 n.x1) c.is_side_close-2.ensures)
    (numbers_test _ c.args.a _ _ _ _ _ _ _ refl (wide_same _ n.y0) (wide_sub _ _ n.s0 n.y0) (wide_add _ _ n.d1 n.y0) c.is_side_close-3.ensures)
    (numbers_test _ c.args.a _ _ _ _ _ _ _ refl (wide_same _ n.y1) (wide_add _ _ n.d0 n.y1) (wide_sub _ _ n.s1 n.y1) c.is_side_close-4.ensures)
