use Rattle.touching.specs.Inner.Decision.{end_of, bottom, bottom_left, left, top_left}
use Rattle.cores.specs.Room.{spot}
use Rattle.cores.proofs.AreaTests.{four, side_test}
use Rattle.cores.proofs.sides.is_left_close.Goals as goal

pub returns : goal.returns
unfolding end_of
returns c =
    let b = c.args.b.now in
    let s = spot c.args.s in
    let t = spot c.args.t in
    four _ _ _ _ _ _ _ _ _ c.any.ensures
    (side_test _ c.args.a b bottom s t _ _ c.bottom_start-fifth.ensures.value c.bottom_left_start-sixth.ensures.value c.are_lines_close.ensures)
    (side_test _ c.args.a b bottom_left s t _ _ c.bottom_left_start-sixth.ensures.value c.left_start-seventh.ensures.value c.are_lines_close-2.ensures)
    (side_test _ c.args.a b left s t _ _ c.left_start-seventh.ensures.value c.top_left_start-eighth.ensures.value c.are_lines_close-3.ensures)
    (side_test _ c.args.a b top_left s t _ _ c.top_left_start-eighth.ensures.value c.top_start-first.ensures.value c.are_lines_close-4.ensures)
